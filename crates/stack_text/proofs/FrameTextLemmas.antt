-- The lines of a frame: a cause, and the registers one after another, for `add_cause` and
-- `add_registers`.
use Rattle.std.proofs.Common.{◌≡◌, ℕ, ◌+◌, List, [], ◌∷◌, ◌++◌, Result, Ok, Err, OnOk, codes, map, refl, ap, sym, ◌∙◌, arith, append_assoc, append-nil}
use Rattle.std.specs.List.{flat_map, range_with_len, slice_index_or}
use Rattle.std.proofs.lemmas.Grind.{flat_map-append}
use Rattle.std.proofs.lemmas.List.FromFn.{map-range_with_len_more}
use Rattle.sym_records.specs.Fields.{hex}
use Rattle.cfi_eval.specs.declared.outcome.Cause.{Cause}
use Rattle.cfi_eval.specs.declared.outcome.Cause.TheVariants as cause
use Rattle.cfi_eval.specs.declared.outcome.Outcome.{Outcome}
use Rattle.cfi_eval.specs.declared.outcome.Outcome.TheVariants.{Undefined}
use Rattle.cfi_eval.specs.declared.outcome.Frame.{Frame}
use Rattle.stack_text.specs.FrameText.{short_name, cause_text, outcome_line, register_line, registers_text}

-- A word that cannot be read.
pub unreadable_said : {A E : Type 0} (r : Result A E) (before mid new : List ℕ) (why : Cause) (address : ℕ) → why ≡ cause.Unreadable address → mid ≡ before ++ codes "unreadable " → OnOk r (new ≡ mid ++ hex address) → OnOk r (new ≡ before ++ cause_text why)
unreadable_said (Ok x) before mid new why address is first later =
    later ∙ ap (λ m. m ++ hex address) first ∙ append_assoc before (codes "unreadable ") (hex address) ∙ ap (λ w. before ++ cause_text w) (sym is)
unreadable_said (Err e) before mid new why address is first later = tt

same : (xs : List ℕ) → map (λ k. k) xs ≡ xs
same [] = refl
same (x ∷ xs) = ap (λ ys. x ∷ ys) (same xs)

range_more : (n : ℕ) → range_with_len 0 (n + 1) ≡ range_with_len 0 n ++ n ∷ []
range_more n = sym (same (range_with_len 0 (n + 1))) ∙ map-range_with_len_more (λ k. k) 0 n n (omega arith) ∙ ap (λ xs. xs ++ n ∷ []) (same (range_with_len 0 n))

-- No register, and one register more.
pub no_registers : (text : List ℕ) (frame : Frame) → text ≡ text ++ registers_text frame 0
unfolding registers_text
no_registers text frame = sym (append-nil text)

pub one_register : (before text new name : List ℕ) (frame : Frame) (n : ℕ) (outcome : Outcome) → text ≡ before ++ registers_text frame n → name ≡ short_name n → outcome ≡ slice_index_or frame.regs n Undefined → new ≡ text ++ outcome_line name outcome → new ≡ before ++ registers_text frame (n + 1)
unfolding registers_text
one_register before text new name frame n outcome is named given more =
    more ∙ ap (λ w. text ++ outcome_line w outcome) named ∙ ap (λ o. text ++ outcome_line (short_name n) o) given ∙ ap (λ t. t ++ register_line frame n) is ∙ append_assoc before (flat_map (register_line frame) (range_with_len 0 n)) (register_line frame n)
    ∙ ap (λ l. before ++ l)
    (ap (λ l. flat_map (register_line frame) (range_with_len 0 n) ++ l) (sym (append-nil (register_line frame n)))
    ∙ sym (flat_map-append (register_line frame) (range_with_len 0 n) (n ∷ [])) ∙ ap (flat_map (register_line frame)) (sym (range_more n)))
