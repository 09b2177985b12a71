-- Worked examples: the results of a reader, texts that are cut, and lines that are refused
-- (Breakpad's symbol_files.md).
use Rattle.std.proofs.Common.{◌≡◌, [], ◌∷◌, codes, Some, None, Ok, Err, refl}
use Rattle.sym_edges.specs.declared.fault.Stop.TheVariants.{Fault, NoMemory}
use Rattle.sym_grammar.proofs.Computing.{sym_grammar_computes}
use Rattle.sym_grammar.specs.Answer.{Part, Reads, outcome, answer, whole_lines, open_line}
use Rattle.sym_records.specs.Reading.{start, reading}
use Rattle.sym_records.specs.declared.line.SymLine.{SymLine}
use Rattle.sym_records.specs.declared.line.SymLine.TheVariants as line
use Rattle.sym_records.specs.declared.place.Place.TheVariants.{Inside}
use Rattle.sym_rules.specs.declared.text_fault.TextKind.TheVariants as fault

abbrev binary : SymLine
binary = line.Module (record { os = codes "a"; arch = codes "b"; id = codes "c"; name = codes "d" })

-- The lines that have ended, and the start of the next.
two_lines : whole_lines (codes "ab\n\ncd") ≡ codes "ab" ∷ [] ∷ []
unfolding sym_grammar_computes
two_lines = refl

open_front : open_line (codes "ab\n\ncd") ≡ codes "cd"
unfolding sym_grammar_computes
open_front = refl

open_nothing : open_line (codes "ab\n") ≡ []
unfolding sym_grammar_computes
open_nothing = refl

-- A reader that has the start of its first line.
abbrev cut : Reads
cut = record { part = record { seen = start; held = codes "XMOD" }; stop = None }

cut_goes_on : answer (record { part = record { seen = start; held = codes "MOD" }; stop = None }) (codes "ULE a b c d\nINFO x\n") ≡ Ok (binary ∷ line.Info (codes "x") ∷ [])
unfolding sym_grammar_computes
cut_goes_on = refl

cut_refused : answer cut (codes "ULE a b c d\n") ≡ Err (Fault (record { kind = fault.NoModule; line = 1 }))
unfolding sym_grammar_computes
cut_refused = refl

-- A reader after three whole lines, with the start of the fourth.
abbrev behind : Part
behind = record { seen = record { records = binary ∷ []; place = Inside; number = 3 }; held = codes "FILE 0" }

behind_ends : answer (record { part = behind; stop = None }) [] ≡ Err (Fault (record { kind = fault.Fields; line = 4 }))
unfolding sym_grammar_computes
behind_ends = refl

behind_goes_on : answer (record { part = behind; stop = None }) (codes "1 x \r") ≡ Ok (binary ∷ line.File 1 (codes "x ") ∷ [])
unfolding sym_grammar_computes
behind_goes_on = refl

-- A line longer than the limit is refused, whatever follows.
behind_long : outcome 7 behind (codes "12\n") ≡ Err (record { kind = fault.LongLine; line = 4 })
unfolding sym_grammar_computes
behind_long = refl

-- A reader that was stopped returns the same again.
stopped : answer (record { part = behind; stop = Some (Fault (record { kind = fault.Hex; line = 2 })) }) (codes "1 x\n") ≡ Err (Fault (record { kind = fault.Hex; line = 2 }))
unfolding sym_grammar_computes
stopped = refl

stopped_memory : answer (record { part = behind; stop = Some NoMemory }) [] ≡ Err NoMemory
unfolding sym_grammar_computes
stopped_memory = refl

-- The first place in a line that is wrong decides the fault.
bad_hex : reading (codes "MODULE a b c d\nFUNC  M000 1 0 f\n") ≡ Err (record { kind = fault.Hex; line = 2 })
unfolding sym_grammar_computes
bad_hex = refl

bad_fields : reading (codes "MODULE a b c d\nFUNC 10 4 0\n") ≡ Err (record { kind = fault.Fields; line = 2 })
unfolding sym_grammar_computes
bad_fields = refl

bad_decimal : reading (codes "MODULE a b c d\nFILE 4294967296 a\n") ≡ Err (record { kind = fault.Decimal; line = 2 })
unfolding sym_grammar_computes
bad_decimal = refl

bad_rule : reading (codes "MODULE a b c d\nSTACK CFI INIT 10 4 .cfa: $rsp 8 + .ra:\n") ≡ Err (record { kind = fault.Rule; line = 2 })
unfolding sym_grammar_computes
bad_rule = refl

bad_word : reading (codes "MODULE a b c d\nFILE\r \n") ≡ Err (record { kind = fault.Unknown; line = 2 })
unfolding sym_grammar_computes
bad_word = refl
