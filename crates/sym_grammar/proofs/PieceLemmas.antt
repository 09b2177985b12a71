-- The pieces of a text, read line by line (for `end_line`, `hold` and `take_piece`).
use Rattle.std.proofs.Common.{◌≡◌, ℕ, ◌-◌, ◌<◌, ◌≤◌, ◌==◌, cond, true, List, [], ◌∷◌, ◌++◌, length, Result, Ok, Err, refl, sym, ◌∙◌, ap, arith, subst, append_assoc, append-nil, length-append}
use Rattle.std.specs.Prelude.{⊤}
use Rattle.std.specs.List.{list_all}
use Rattle.std.proofs.lemmas.List.Folds.{list_all-append}
use Rattle.std.proofs.lemmas.Bool.{lt-ltb}
use Rattle.sym_edges.specs.Outside.{MatchStop}
use Rattle.sym_edges.specs.Results.{◌>>=◌}
use Rattle.sym_edges.specs.declared.fault.Stop.{Stop}
use Rattle.sym_edges.specs.declared.fault.Stop.TheVariants.{Fault, NoMemory}
use Rattle.sym_rules.proofs.BoolLemmas.{and_true, both, not_true, elim_bool}
use Rattle.sym_rules.specs.Cuts.{is_within_line, onto, split_lines}
use Rattle.sym_records.specs.Text.{line_read}
use Rattle.sym_records.specs.Reading.{Seen, next_number, lacks_module, with_record, with_text, numbered, with_lines, some_records}
use Rattle.sym_records.specs.declared.line.SymLine.{SymLine}
use Rattle.sym_rules.specs.declared.text_fault.TextFault.{TextFault}
use Rattle.sym_rules.specs.declared.text_fault.TextKind.TheVariants.{LongLine, NoModule}
use Rattle.sym_grammar.specs.Answer.{Part, outcome, but_last, last_line, whole_lines, open_line, IsUpToDate}
use Rattle.sym_grammar.specs.Input.{with_front, decided}
use Rattle.sym_grammar.specs.internal.Given.{Leaves}
use Rattle.sym_grammar.specs.internal.Parts.{IsFront, part_of, GoesOn, Faults}

-- Lines.

pub split_byte : (b : ℕ) (bytes : List ℕ) → split_lines (b ∷ bytes) ≡ cond (b == 10) ([] ∷ split_lines bytes) (onto b (split_lines bytes))
unfolding split_lines
split_byte b bytes = refl

pub split_none : split_lines [] ≡ [] ∷ []
unfolding split_lines
split_none = refl

-- Each text has a first line.
pub record Lines (bytes : List ℕ) : Type 0 where
  pub first : List ℕ
  pub later : List (List ℕ)
  pub is : split_lines bytes ≡ first ∷ later

lines_onto : (b : ℕ) (bytes : List ℕ) → Lines bytes → Lines (b ∷ bytes)
lines_onto b bytes rest = elim_bool (b == 10) (λ t. (b == 10) ≡ t → Lines (b ∷ bytes))
    (λ _ is. record { first = []; later = split_lines bytes; is = split_byte b bytes ∙ ap (λ t. cond t ([] ∷ split_lines bytes) (onto b (split_lines bytes))) is })
    (λ _ is. record { first = b ∷ rest.first; later = rest.later; is = split_byte b bytes ∙ ap (λ t. cond t ([] ∷ split_lines bytes) (onto b (split_lines bytes))) is ∙ ap (onto b) rest.is }) refl

pub lines_of : (bytes : List ℕ) → Lines bytes
lines_of [] = record { first = []; later = []; is = split_none }
lines_of (b ∷ bytes) = lines_onto b bytes (lines_of bytes)

-- Bytes without LF that are followed by LF are the first line.
split_end : (xs ys : List ℕ) → list_all is_within_line xs ≡ true → split_lines (xs ++ 10 ∷ ys) ≡ xs ∷ split_lines ys
split_end [] ys all = split_byte 10 ys
split_end (x ∷ xs) ys all =
    split_byte x (xs ++ 10 ∷ ys)
    ∙ ap (λ t. cond t ([] ∷ split_lines (xs ++ 10 ∷ ys)) (onto x (split_lines (xs ++ 10 ∷ ys)))) (not_true (and_true all).0)
    ∙ ap (onto x) (split_end xs ys (and_true all).1)

-- Bytes without LF are the start of the first line.
pub split_open : (xs ys : List ℕ) (first : List ℕ) (later : List (List ℕ)) → list_all is_within_line xs ≡ true → split_lines ys ≡ first ∷ later → split_lines (xs ++ ys) ≡ (xs ++ first) ∷ later
split_open [] ys first later all is = is
split_open (x ∷ xs) ys first later all is =
    split_byte x (xs ++ ys)
    ∙ ap (λ t. cond t ([] ∷ split_lines (xs ++ ys)) (onto x (split_lines (xs ++ ys)))) (not_true (and_true all).0)
    ∙ ap (onto x) (split_open xs ys first later (and_true all).1 is)

pub split_one : (xs : List ℕ) → list_all is_within_line xs ≡ true → split_lines xs ≡ xs ∷ []
split_one xs all = ap split_lines (sym (append-nil xs)) ∙ split_open xs [] [] [] all split_none ∙ ap (λ l. l ∷ []) (append-nil xs)

-- A line that ends.

pub with_cons : (limit : ℕ) (seen : Seen) (line : List ℕ) (lines : List (List ℕ)) → with_lines limit seen (line ∷ lines) ≡ (numbered (next_number seen.number) (with_text limit seen line) >>= λ after. with_lines limit after lines)
unfolding with_lines
with_cons limit seen line lines = refl

pub with_none : (limit : ℕ) (seen : Seen) → with_lines limit seen [] ≡ Ok seen
unfolding with_lines
with_none limit seen = refl

abbrev read_line : ℕ → Seen → List ℕ → Result Seen TextFault
read_line limit seen line = numbered (next_number seen.number) (with_text limit seen line)

pub outcome_is : (limit : ℕ) (part : Part) (more : List ℕ) → outcome limit part more ≡ (with_lines limit part.seen (split_lines (part.held ++ more)) >>= λ after. some_records after.records)
unfolding outcome
outcome_is limit part more = refl

abbrev finished : Result Seen TextFault → Result (List SymLine) TextFault
finished r = r >>= λ after. some_records after.records

line_joined : (held line later more : List ℕ) → held ++ ((line ++ 10 ∷ later) ++ more) ≡ (held ++ line) ++ 10 ∷ (later ++ more)
line_joined held line later more = ap (λ l. held ++ l) (append_assoc line (10 ∷ later) more) ∙ sym (append_assoc held line (10 ∷ (later ++ more)))

front_joined : (held line later : List ℕ) → held ++ (line ++ 10 ∷ later) ≡ (held ++ line) ++ 10 ∷ later
front_joined held line later = sym (append_assoc held line (10 ∷ later))

outcome_line : (limit : ℕ) (seen : Seen) (held line later more : List ℕ) → list_all is_within_line (held ++ line) ≡ true → outcome limit (part_of seen held) ((line ++ 10 ∷ later) ++ more) ≡ finished (read_line limit seen (held ++ line) >>= λ after. with_lines limit after (split_lines (later ++ more)))
outcome_line limit seen held line later more all =
    outcome_is limit (part_of seen held) ((line ++ 10 ∷ later) ++ more)
    ∙ ap (λ l. finished (with_lines limit seen (split_lines l))) (line_joined held line later more)
    ∙ ap (λ ls. finished (with_lines limit seen ls)) (split_end (held ++ line) (later ++ more) all)
    ∙ ap finished (with_cons limit seen (held ++ line) (split_lines (later ++ more)))

but_last_more : (x : List ℕ) (xs : List (List ℕ)) (first : List ℕ) (later : List (List ℕ)) → xs ≡ first ∷ later → but_last (x ∷ xs) ≡ x ∷ but_last xs
unfolding but_last
but_last_more x xs first later is = ap (λ l. but_last (x ∷ l)) is ∙ ap (λ l. x ∷ but_last l) (sym is)

last_more : (x : List ℕ) (xs : List (List ℕ)) (first : List ℕ) (later : List (List ℕ)) → xs ≡ first ∷ later → last_line (x ∷ xs) ≡ last_line xs
unfolding last_line
last_more x xs first later is = ap (λ l. last_line (x ∷ l)) is ∙ ap last_line (sym is)

pub whole_is : (bytes : List ℕ) → whole_lines bytes ≡ but_last (split_lines bytes)
unfolding whole_lines
whole_is bytes = refl

pub open_is : (bytes : List ℕ) → open_line bytes ≡ last_line (split_lines bytes)
unfolding open_line
open_is bytes = refl

whole_line : (xs ys : List ℕ) → list_all is_within_line xs ≡ true → whole_lines (xs ++ 10 ∷ ys) ≡ xs ∷ whole_lines ys
whole_line xs ys all =
    let rest = lines_of ys in
    whole_is (xs ++ 10 ∷ ys) ∙ ap but_last (split_end xs ys all) ∙ but_last_more xs (split_lines ys) rest.first rest.later rest.is ∙ ap (λ l. xs ∷ l) (sym (whole_is ys))

open_behind : (xs ys : List ℕ) → list_all is_within_line xs ≡ true → open_line (xs ++ 10 ∷ ys) ≡ open_line ys
open_behind xs ys all =
    let rest = lines_of ys in
    open_is (xs ++ 10 ∷ ys) ∙ ap last_line (split_end xs ys all) ∙ last_more xs (split_lines ys) rest.first rest.later rest.is ∙ sym (open_is ys)

front_line : (limit : ℕ) (held line : List ℕ) → IsFront limit held → list_all is_within_line line ≡ true → list_all is_within_line (held ++ line) ≡ true
front_line limit held line front all = list_all-append is_within_line held line ∙ both front.one_line all

pub decided_is : (limit : ℕ) (part : Part) (bytes : List ℕ) → decided limit part bytes ≡ with_front limit (with_lines limit part.seen (whole_lines (part.held ++ bytes))) (open_line (part.held ++ bytes))
unfolding decided
decided_is limit part bytes = refl

line_goes_on : (limit : ℕ) (seen new : Seen) (held line later : List ℕ) → list_all is_within_line (held ++ line) ≡ true → read_line limit seen (held ++ line) ≡ Ok new → GoesOn limit (part_of seen held) (line ++ 10 ∷ later) (part_of new []) later
line_goes_on limit seen new held line later all read = record {
  same = λ more. (outcome_is limit (part_of new []) (later ++ more)
      ∙ sym (outcome_line limit seen held line later more all ∙ ap (λ r. finished (r >>= λ after. with_lines limit after (split_lines (later ++ more)))) read));
  lines = sym (ap (λ l. with_lines limit seen (whole_lines l)) (front_joined held line later) ∙ ap (with_lines limit seen) (whole_line (held ++ line) later all)
      ∙ with_cons limit seen (held ++ line) (whole_lines later) ∙ ap (λ r. r >>= λ after. with_lines limit after (whole_lines later)) read);
  held = sym (ap open_line (front_joined held line later) ∙ open_behind (held ++ line) later all);
}

line_faults : (limit : ℕ) (seen : Seen) (held line later : List ℕ) (fault : TextFault) → list_all is_within_line (held ++ line) ≡ true → read_line limit seen (held ++ line) ≡ Err fault → Faults limit (part_of seen held) (line ++ 10 ∷ later) fault
line_faults limit seen held line later fault all read = record {
  always = λ more. (outcome_line limit seen held line later more all ∙ ap (λ r. finished (r >>= λ after. with_lines limit after (split_lines (later ++ more)))) read);
  decides = decided_is limit (part_of seen held) (line ++ 10 ∷ later)
      ∙ ap (λ l. with_front limit (with_lines limit seen (whole_lines l)) (open_line l)) (front_joined held line later)
      ∙ ap (λ ws. with_front limit (with_lines limit seen ws) (open_line ((held ++ line) ++ 10 ∷ later))) (whole_line (held ++ line) later all)
      ∙ ap (λ r. with_front limit r (open_line ((held ++ line) ++ 10 ∷ later))) (with_cons limit seen (held ++ line) (whole_lines later))
      ∙ ap (λ r. with_front limit (r >>= λ after. with_lines limit after (whole_lines later)) (open_line ((held ++ line) ++ 10 ∷ later))) read;
}

-- One step after another.

both_on : (limit : ℕ) (a b c : Part) (bytes mid rest : List ℕ) → GoesOn limit a bytes b mid → GoesOn limit b mid c rest → GoesOn limit a bytes c rest
both_on limit a b c bytes mid rest first second = record {
  same = λ more. (second.same more ∙ first.same more);
  lines = second.lines ∙ first.lines;
  held = second.held ∙ first.held;
}

then_faults : (limit : ℕ) (a b : Part) (bytes mid : List ℕ) (fault : TextFault) → GoesOn limit a bytes b mid → Faults limit b mid fault → Faults limit a bytes fault
then_faults limit a b bytes mid fault first second = record {
  always = λ more. (sym (first.same more) ∙ second.always more);
  decides = decided_is limit a bytes ∙ ap (λ r. with_front limit r (open_line (a.held ++ bytes))) (sym first.lines)
      ∙ ap (with_front limit (with_lines limit b.seen (whole_lines (b.held ++ mid)))) (sym first.held) ∙ sym (decided_is limit b mid) ∙ second.decides;
}

then_up : (limit : ℕ) (a b c : Part) (bytes mid : List ℕ) → GoesOn limit a bytes b mid → IsUpToDate limit b mid c → IsUpToDate limit a bytes c
then_up limit a b c bytes mid first second = record {
  lines = sym first.lines ∙ second.lines;
  held = second.held ∙ first.held;
  short = second.short;
}

-- Nothing was read yet.
pub nothing_taken : (limit : ℕ) (a : Part) (bytes : List ℕ) → GoesOn limit a bytes a bytes
nothing_taken limit a bytes = record { same = λ more. refl; lines = refl; held = refl }

moved_on : (limit : ℕ) (a : Part) (piece : List ℕ) (b : Part) (rest other : List ℕ) → rest ≡ other → GoesOn limit a piece b rest → GoesOn limit a piece b other
moved_on limit a piece b rest other is on = record {
  same = λ more. (ap (λ l. outcome limit b (l ++ more)) (sym is) ∙ on.same more);
  lines = ap (λ l. with_lines limit b.seen (whole_lines (b.held ++ l))) (sym is) ∙ on.lines;
  held = ap (λ l. open_line (b.held ++ l)) (sym is) ∙ on.held;
}

with_held : (limit : ℕ) (a : Part) (piece : List ℕ) (new : Seen) (none later : List ℕ) → none ≡ [] → GoesOn limit a piece (part_of new []) later → GoesOn limit a piece (part_of new none) later
with_held limit a piece new none later empty on = subst (λ (h : List ℕ). GoesOn limit a piece (part_of new h) later) (sym empty) on

-- One more line was read.
pub line_taken : (limit : ℕ) (a : Part) (seen new : Seen) (piece held none rest line later : List ℕ) → GoesOn limit a piece (part_of seen held) rest → IsFront limit held → list_all is_within_line line ≡ true → rest ≡ line ++ 10 ∷ later → read_line limit seen (held ++ line) ≡ Ok new → none ≡ [] → GoesOn limit a piece (part_of new none) later
line_taken limit a seen new piece held none rest line later on front all is read empty =
    with_held limit a piece new none later empty
    (both_on limit a (part_of seen held) (part_of new []) piece (line ++ 10 ∷ later) later (moved_on limit a piece (part_of seen held) rest (line ++ 10 ∷ later) is on)
    (line_goes_on limit seen new held line later (front_line limit held line front all) read))

-- A fault of a line is a fault of the text.
pub line_stopped : {A : Type 0} (B : Type 0) (limit : ℕ) (a : Part) (seen new : Seen) (piece held rest line later : List ℕ) (stop : Stop TextFault) (P : A → Type 0) → GoesOn limit a piece (part_of seen held) rest → IsFront limit held → list_all is_within_line line ≡ true → rest ≡ line ++ 10 ∷ later → Leaves {A = B} (Err stop) new (read_line limit seen (held ++ line)) → MatchStop {A = A} (Err stop) P (λ fault. Faults limit a piece fault) ⊤
line_stopped B limit a seen new piece held rest line later (Fault fault) P on front all is read =
    then_faults limit a (part_of seen held) piece (line ++ 10 ∷ later) fault (moved_on limit a piece (part_of seen held) rest (line ++ 10 ∷ later) is on)
    (line_faults limit seen held line later fault (front_line limit held line front all) read)
line_stopped B limit a seen new piece held rest line later NoMemory P on front all is read = tt

-- The start of a line.

pub with_long : (limit : ℕ) (seen : Seen) (line : List ℕ) → limit < length line → with_text limit seen line ≡ Err LongLine
unfolding with_text
with_long limit seen line long =
    ap (λ t. cond t (Err LongLine) (cond (lacks_module seen.place line) (Err NoModule) (line_read line >>= with_record seen))) (lt-ltb limit (length line) long)

abbrev long_fault : Seen → TextFault
long_fault seen = record { kind = LongLine; line = next_number seen.number }

pub line_long : (limit : ℕ) (seen : Seen) (held line : List ℕ) → IsFront limit held → limit - length held < length line → numbered (next_number seen.number) (with_text limit seen (held ++ line)) ≡ Err (record { kind = LongLine; line = next_number seen.number })
line_long limit seen held line front long =
    ap (numbered (next_number seen.number)) (with_long limit seen (held ++ line) (omega (arith, front.short, length-append held line)))

whole_none : (xs : List ℕ) → list_all is_within_line xs ≡ true → whole_lines xs ≡ []
unfolding but_last
whole_none xs all = whole_is xs ∙ ap but_last (split_one xs all)

open_all : (xs : List ℕ) → list_all is_within_line xs ≡ true → open_line xs ≡ xs
unfolding last_line
open_all xs all = open_is xs ∙ ap last_line (split_one xs all)

pub held_long : (limit : ℕ) (seen : Seen) (held front : List ℕ) → IsFront limit held → list_all is_within_line front ≡ true → limit - length held < length front → Faults limit (part_of seen held) front (record { kind = LongLine; line = next_number seen.number })
held_long limit seen held front is all long = record {
  always = λ more. (let rest = lines_of more in
      let line : split_lines (held ++ (front ++ more)) ≡ ((held ++ front) ++ rest.first) ∷ rest.later =
      ap split_lines (sym (append_assoc held front more)) ∙ split_open (held ++ front) more rest.first rest.later (front_line limit held front is all) rest.is in
      outcome_is limit (part_of seen held) (front ++ more)
      ∙ ap (λ ls. finished (with_lines limit seen ls)) line
      ∙ ap finished (with_cons limit seen ((held ++ front) ++ rest.first) rest.later)
      ∙ ap (λ r. finished (numbered (next_number seen.number) r >>= λ after. with_lines limit after rest.later)) (with_long limit seen ((held ++ front) ++ rest.first) (omega (arith, is.short, length-append held front, length-append (held ++ front) rest.first))));
  decides =
      let whole = front_line limit held front is all in
      decided_is limit (part_of seen held) front
      ∙ ap (λ ws. with_front limit (with_lines limit seen ws) (open_line (held ++ front))) (whole_none (held ++ front) whole)
      ∙ ap (λ r. with_front limit r (open_line (held ++ front))) (with_none limit seen)
      ∙ ap (with_front limit (Ok seen)) (open_all (held ++ front) whole)
      ∙ ap (λ t. cond t (Err (long_fault seen)) (Ok (part_of seen (held ++ front)))) (lt-ltb limit (length (held ++ front)) (omega (arith, is.short, long, length-append held front)));
}

pub joined_front : (limit : ℕ) (held front new : List ℕ) → IsFront limit held → list_all is_within_line front ≡ true → length front ≤ limit - length held → new ≡ held ++ front → IsFront limit new
joined_front limit held front new is all short same = record {
  one_line = ap (list_all is_within_line) same ∙ front_line limit held front is all;
  short = omega (arith, is.short, ap length same, length-append held front);
}

pub held_up : (limit : ℕ) (seen : Seen) (held front new : List ℕ) → IsFront limit held → list_all is_within_line front ≡ true → length front ≤ limit - length held → new ≡ held ++ front → IsUpToDate limit (part_of seen held) front (part_of seen new)
held_up limit seen held front new is all short same =
    let whole = front_line limit held front is all in
    record {
      lines = ap (with_lines limit seen) (whole_none (held ++ front) whole) ∙ with_none limit seen;
      held = same ∙ sym (open_all (held ++ front) whole);
      short = (joined_front limit held front new is all short same).short;
    }

pub held_on : (limit : ℕ) (seen : Seen) (held front new : List ℕ) → new ≡ held ++ front → GoesOn limit (part_of seen held) front (part_of seen new) []
held_on limit seen held front new same = record {
  same = λ more. (outcome_is limit (part_of seen new) more ∙ ap (λ l. finished (with_lines limit seen (split_lines l))) (ap (λ l. l ++ more) same ∙ append_assoc held front more) ∙ sym (outcome_is limit (part_of seen held) (front ++ more)));
  lines = ap (λ l. with_lines limit seen (whole_lines l)) (append-nil new ∙ same);
  held = ap open_line (append-nil new ∙ same);
}

-- The rest of a piece is stored.
pub rest_held : {A : Type 0} (limit : ℕ) (a b c : Part) (piece rest : List ℕ) (result : Result A (Stop TextFault)) → GoesOn limit a piece b rest
    → MatchStop result (λ _. IsUpToDate limit b rest c × GoesOn limit b rest c []) (λ fault. Faults limit b rest fault) ⊤
    → MatchStop result (λ _. IsUpToDate limit a piece c × GoesOn limit a piece c []) (λ fault. Faults limit a piece fault) ⊤
rest_held limit a b c piece rest (Ok x) on is = (then_up limit a b c piece rest on is.0, both_on limit a b c piece rest [] on is.1)
rest_held limit a b c piece rest (Err (Fault fault)) on is = then_faults limit a b piece rest fault on is
rest_held limit a b c piece rest (Err NoMemory) on is = tt

-- No bytes are the start of a line.
pub front_nothing : (limit : ℕ) (new : List ℕ) → new ≡ [] → IsFront limit new
front_nothing limit new none = record { one_line = ap (list_all is_within_line) none; short = omega (arith, ap length none) }

pub nothing_held : (held : List ℕ) → length held ≡ 0 → held ≡ []
nothing_held [] none = refl
nothing_held (b ∷ held) none = absurd (omega arith)

pub nothing_joined : (limit : ℕ) (seen : Seen) (held line : List ℕ) → length held ≡ 0 → with_text limit seen (held ++ line) ≡ with_text limit seen line
nothing_joined limit seen held line none = ap (λ l. with_text limit seen (l ++ line)) (nothing_held held none)
