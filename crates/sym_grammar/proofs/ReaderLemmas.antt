-- The result that a reader will return (for `Reader`).
use Rattle.std.proofs.Common.{◌≡◌, ◌≢◌, ℕ, ◌^◌, true, List, [], ◌∷◌, ◌++◌, length, Some, None, Result, Ok, Err, Option, refl, sym, ◌∙◌, ap, arith, append-nil}
use Rattle.std.specs.Prelude.{⊤}
use Rattle.std.specs.List.{list_all}
use Rattle.sym_edges.specs.Outside.{MatchStop}
use Rattle.sym_edges.specs.Results.{◌>>=◌}
use Rattle.sym_edges.specs.declared.fault.Stop.{Stop}
use Rattle.sym_edges.specs.declared.fault.Stop.TheVariants.{Fault, NoMemory}
use Rattle.sym_rules.specs.Cuts.{is_within_line, split_lines}
use Rattle.sym_records.specs.Reading.{Seen, start, next_number, with_text, numbered, with_lines, some_records, reading_within, reading}
use Rattle.sym_records.specs.declared.line.SymLine.{SymLine}
use Rattle.sym_rules.specs.declared.text_fault.TextFault.{TextFault}
use Rattle.sym_rules.specs.declared.text_fault.TextKind.TheVariants.{Empty}
use Rattle.sym_grammar.specs.Answer.{Part, Reads, outcome, lifted, answer, Feeds}
use Rattle.sym_grammar.specs.internal.Given.{Leaves}
use Rattle.sym_grammar.specs.internal.Parts.{part_of, GoesOn, Faults}
use Rattle.sym_grammar.proofs.PieceLemmas.{split_one, with_cons, with_none, outcome_is}

answer_is : (part : Part) (more : List ℕ) → answer (record { part = part; stop = None }) more ≡ lifted (outcome (2 ^ 20) part more)
unfolding answer
answer_is part more = refl

reading_is : (bytes : List ℕ) → reading bytes ≡ (with_lines (2 ^ 20) start (split_lines bytes) >>= λ after. some_records after.records)
unfolding reading reading_within
reading_is bytes = refl

pub starts : (seen : Seen) (held : List ℕ) → seen ≡ start → held ≡ [] → (bytes : List ℕ) → answer (record { part = record { seen = seen; held = held }; stop = None }) bytes ≡ lifted (reading bytes)
starts seen held first none bytes =
    answer_is (part_of seen held) bytes
    ∙ ap lifted (outcome_is (2 ^ 20) (part_of seen held) bytes
    ∙ ap (λ s. with_lines (2 ^ 20) s (split_lines (held ++ bytes)) >>= λ after. some_records after.records) first
    ∙ ap (λ h. with_lines (2 ^ 20) start (split_lines (h ++ bytes)) >>= λ after. some_records after.records) none
    ∙ sym (reading_is bytes))

pub fed : (old new : Part) (piece : List ℕ) → GoesOn (2 ^ 20) old piece new [] → (more : List ℕ) → answer (record { part = new; stop = None }) more ≡ answer (record { part = old; stop = None }) (piece ++ more)
fed old new piece on more = answer_is new more ∙ ap lifted (on.same more) ∙ sym (answer_is old (piece ++ more))

-- The result of a reader that was not stopped.
answer_open : (part : Part) (s : Option (Stop TextFault)) (reads : Reads) (more : List ℕ) → record { part = part; stop = s } ≡ reads → s ≡ None → answer reads more ≡ lifted (outcome (2 ^ 20) part more)
answer_open part s reads more is open_ =
    ap (λ r. answer r more) (sym is) ∙ ap (λ (x : Option (Stop TextFault)). answer (record { part = part; stop = x }) more) open_ ∙ answer_is part more

stopped_is : (part : Part) (stop : Stop TextFault) (more : List ℕ) → answer (record { part = part; stop = Some stop }) more ≡ Err stop
unfolding answer
stopped_is part stop more = refl

answer_stopped : (part : Part) (s : Option (Stop TextFault)) (reads : Reads) (stop : Stop TextFault) (more : List ℕ) → record { part = part; stop = s } ≡ reads → s ≡ Some stop → answer reads more ≡ Err stop
answer_stopped part s reads stop more is stopped =
    ap (λ r. answer r more) (sym is) ∙ ap (λ (x : Option (Stop TextFault)). answer (record { part = part; stop = x }) more) stopped ∙ stopped_is part stop more

pub fed_stopped : {A : Type 0} (B : Type 0) (stop : Stop TextFault) (part : Part) (s : Option (Stop TextFault)) (old new : Reads) (piece : List ℕ) (P : A → Type 0) → record { part = part; stop = s } ≡ old → s ≡ None → MatchStop {A = A} (Err stop) P (λ fault. Faults (2 ^ 20) part piece fault) ⊤ → Feeds {A = B} (Err stop) old piece new
fed_stopped B (Fault fault) part s old new piece P whole open_ is = λ more. (answer_open part s old (piece ++ more) whole open_ ∙ ap lifted (is.always more))
fed_stopped B NoMemory part s old new piece P whole open_ is = tt

pub stopped_again : (B : Type 0) (stop : Stop TextFault) (part : Part) (s : Option (Stop TextFault)) (old new : Reads) (piece : List ℕ) → record { part = part; stop = s } ≡ old → s ≡ Some stop → Feeds {A = B} (Err stop) old piece new
stopped_again B (Fault fault) part s old new piece whole stopped = λ more. answer_stopped part s old (Fault fault) (piece ++ more) whole stopped
stopped_again B NoMemory part s old new piece whole stopped = tt

abbrev one_line : Seen → List ℕ → Result Seen TextFault
one_line seen held = numbered (next_number seen.number) (with_text (2 ^ 20) seen held)

then_none : (r : Result Seen TextFault) → ((r >>= λ after. with_lines (2 ^ 20) after []) >>= λ after. some_records after.records) ≡ (r >>= λ after. some_records after.records)
then_none (Ok after) = ap (λ r. r >>= λ x. some_records x.records) (with_none (2 ^ 20) after)
then_none (Err fault) = refl

some_is : (records : List SymLine) → length records ≢ 0 → some_records records ≡ Ok records
some_is [] some = absurd (some refl)
some_is (s ∷ records) some = refl

none_is : (records : List SymLine) → length records ≡ 0 → some_records records ≡ Err (record { kind = Empty; line = 1 })
none_is [] none = refl
none_is (s ∷ records) none = absurd (omega arith)

ended_is : (seen : Seen) (held : List ℕ) → list_all is_within_line held ≡ true → answer (record { part = part_of seen held; stop = None }) [] ≡ lifted (one_line seen held >>= λ after. some_records after.records)
ended_is seen held all =
    answer_is (part_of seen held) []
    ∙ ap lifted (outcome_is (2 ^ 20) (part_of seen held) []
    ∙ ap (λ l. with_lines (2 ^ 20) seen (split_lines l) >>= λ after. some_records after.records) (append-nil held)
    ∙ ap (λ ls. with_lines (2 ^ 20) seen ls >>= λ after. some_records after.records) (split_one held all)
    ∙ ap (λ r. r >>= λ after. some_records after.records) (with_cons (2 ^ 20) seen held [])
    ∙ then_none (one_line seen held))

pub ended : (seen new : Seen) (held : List ℕ) (records : List SymLine) → list_all is_within_line held ≡ true → one_line seen held ≡ Ok new → records ≡ new.records → length records ≢ 0 → answer (record { part = part_of seen held; stop = None }) [] ≡ Ok records
ended seen new held records all read same some =
    ended_is seen held all ∙ ap (λ r. lifted (r >>= λ after. some_records after.records)) read ∙ ap (λ l. lifted (some_records l)) (sym same) ∙ ap lifted (some_is records some)

pub ended_empty : (seen new : Seen) (held : List ℕ) (records : List SymLine) → list_all is_within_line held ≡ true → one_line seen held ≡ Ok new → records ≡ new.records → length records ≡ 0 → answer (record { part = part_of seen held; stop = None }) [] ≡ Err (Fault (record { kind = Empty; line = 1 }))
ended_empty seen new held records all read same none =
    ended_is seen held all ∙ ap (λ r. lifted (r >>= λ after. some_records after.records)) read ∙ ap (λ l. lifted (some_records l)) (sym same) ∙ ap lifted (none_is records none)

pub ended_stopped : {A : Type 0} (B : Type 0) (stop : Stop TextFault) (seen new : Seen) (held line : List ℕ) (s : Option (Stop TextFault)) (reads : Reads) (P : A → Type 0) → record { part = part_of seen held; stop = s } ≡ reads → s ≡ None → list_all is_within_line held ≡ true → line ≡ held → Leaves {A = B} (Err stop) new (one_line seen line) → MatchStop {A = A} (Err stop) P (λ fault. answer reads [] ≡ Err (Fault fault)) ⊤
ended_stopped B (Fault fault) seen new held line s reads P whole open_ all same read =
    answer_open (part_of seen held) s reads [] whole open_ ∙ sym (answer_is (part_of seen held) []) ∙ ended_is seen held all
    ∙ ap (λ r. lifted (r >>= λ after. some_records after.records)) (ap (one_line seen) (sym same) ∙ read)
ended_stopped B NoMemory seen new held line s reads P whole open_ all same read = tt

pub stopped_end : {A : Type 0} (stop : Stop TextFault) (part : Part) (s : Option (Stop TextFault)) (reads : Reads) (P : A → Type 0) → record { part = part; stop = s } ≡ reads → s ≡ Some stop → MatchStop {A = A} (Err stop) P (λ fault. answer reads [] ≡ Err (Fault fault)) ⊤
stopped_end (Fault fault) part s reads P whole stopped = answer_stopped part s reads (Fault fault) [] whole stopped
stopped_end NoMemory part s reads P whole stopped = tt
