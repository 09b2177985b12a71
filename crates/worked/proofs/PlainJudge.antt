-- The verdict of `judge`, computed from that of `dump`: the records are compared at the addresses
-- at which one of them begins or ends.
use Rattle.std.specs.Prelude.{◌≡◌, ◌^◌, ℕ, zero, suc, nat_lt, ◌&&◌, Bool, true, false, if◌then◌else◌, List, Option, Some, None, Result, Ok, Err}
use Rattle.std.proofs.Common.{refl, sym, subst, arith}
use Rattle.std.proofs.lemmas.Bool.Decides.{nat_tests}
use Rattle.sym_rules.specs.declared.text_fault.TextFault.{TextFault}
use Rattle.sym_records.specs.Reading.{reading}
use Rattle.sym_records.specs.declared.line.SymLine.{SymLine}
use Rattle.sym_grammar.specs.Input.{file_reading}
use Rattle.sym_grammar.specs.declared.refusal.SymRefusal.{SymRefusal}
use Rattle.sym_judge.specs.declared.ruling.Ruling.{Ruling}
use Rattle.sym_judge.specs.declared.ruling.Ruling.TheVariants.{Yes, No}
use Rattle.sym_judge.specs.declared.ruling.Half.TheVariants.{Names, Frames}
use Rattle.sym_judge.specs.internal.Stops.{half_ruling, sooner, Fits, IsHalfRuling}
use Rattle.sym_judge.proofs.StopLemmas.{half_is, rulings_join}
use Rattle.dumpsyms_cmd.specs.Verdict.{Verdict, refused, unread_file, LIMIT}
use Rattle.dumpsyms_cmd.specs.SymbolInput.{refusal_line}
use Rattle.dumpsyms_cmd.specs.commands.Judge.{ruling_verdict, IsRuled, IsReadVerdict, IsSymVerdict, IsTextVerdict, IsDumpedVerdict}

abbrev pub fits : Ruling → Bool
fits Yes = true
fits (No address aspect) = nat_lt address (2 ^ 64)

abbrev pub by_halves : Ruling → Ruling → Option Verdict
by_halves names frames = if fits names && fits frames then Some (ruling_verdict (sooner names frames)) else None

abbrev pub read_verdict : List SymLine → Result (List SymLine) SymRefusal → Option Verdict
read_verdict own (Ok other) = by_halves (half_ruling Names own other) (half_ruling Frames own other)
read_verdict own (Err why) = Some (refused (refusal_line why))

abbrev pub sym_verdict : Bool → List ℕ → List SymLine → Option (List ℕ) → Option Verdict
sym_verdict full name own None = Some (unread_file full name)
sym_verdict full name own (Some bytes) = read_verdict own (file_reading LIMIT bytes)

abbrev pub text_verdict : Bool → List ℕ → Result (List SymLine) TextFault → Option (List ℕ) → Option Verdict
text_verdict full name (Ok own) sym_bytes = sym_verdict full name own sym_bytes
text_verdict full name (Err fault) sym_bytes = None

abbrev pub dumped_verdict : Bool → List ℕ → ℕ → Verdict → Option (List ℕ) → Option Verdict
dumped_verdict full name zero dumped sym_bytes = text_verdict full name (reading dumped.out) sym_bytes
dumped_verdict full name (suc status) dumped sym_bytes = Some dumped

the_same : {A : Type 0} {x y : A} → ◌≡◌ {A = Option A} (Some x) (Some y) → y ≡ x
the_same is = cc

not_told : {A : Type 0} {x : A} → ◌≡◌ {A = Option A} None (Some x) → ⊥
not_told is = cc

fits_is : (ruling : Ruling) → fits ruling ≡ true → Fits ruling
fits_is Yes is = tt
fits_is (No address aspect) is = grind (arith, nat_tests)

halves_by : (own other : List SymLine) (names frames : Ruling) (v : Verdict) (a b : Bool) → names ≡ half_ruling Names own other → frames ≡ half_ruling Frames own other → fits names ≡ a → fits frames ≡ b
    → (if a && b then Some (ruling_verdict (sooner names frames)) else None) ≡ Some v → IsRuled own other v
halves_by own other names frames v true true p q f g is = record {
  ruling = sooner names frames;
  ruling_is = rulings_join own other names frames (subst (λ r. IsHalfRuling Names own other r) (sym p) (half_is Names own other (subst Fits p (fits_is names f)))) (subst (λ r. IsHalfRuling Frames own other r) (sym q) (half_is Frames own other (subst Fits q (fits_is frames g))));
  is = the_same is;
}
halves_by own other names frames v true false p q f g is = absurd (not_told is)
halves_by own other names frames v false b p q f g is = absurd (not_told is)

read_is : (own : List SymLine) (read : Result (List SymLine) SymRefusal) (v : Verdict) → read_verdict own read ≡ Some v → IsReadVerdict own read v
read_is own (Ok other) v is = let names : Ruling = half_ruling Names own other in let frames : Ruling = half_ruling Frames own other in halves_by own other names frames v (fits names) (fits frames) refl refl refl refl is
read_is own (Err why) v is = the_same is

sym_is : (full : Bool) (name : List ℕ) (own : List SymLine) (bytes : Option (List ℕ)) (v : Verdict) → sym_verdict full name own bytes ≡ Some v → IsSymVerdict full name own bytes v
sym_is full name own None v is = the_same is
sym_is full name own (Some bytes) v is = read_is own (file_reading LIMIT bytes) v is

text_is : (full : Bool) (name : List ℕ) (read : Result (List SymLine) TextFault) (bytes : Option (List ℕ)) (v : Verdict) → text_verdict full name read bytes ≡ Some v → IsTextVerdict full name read bytes v
text_is full name (Ok own) bytes v is = sym_is full name own bytes v is
text_is full name (Err fault) bytes v is = absurd (not_told is)

pub dumped_is : (full : Bool) (name : List ℕ) (status : ℕ) (dumped : Verdict) (bytes : Option (List ℕ)) (v : Verdict) → dumped_verdict full name status dumped bytes ≡ Some v → IsDumpedVerdict full name status dumped bytes v
dumped_is full name zero dumped bytes v is = text_is full name (reading dumped.out) bytes v is
dumped_is full name (suc status) dumped bytes v is = the_same is
