-- Worked examples: calls under other numbers, the numbers of chains, and numbers that have one
-- name.
use Rattle.std.proofs.Common.{◌≡◌, true, false, ℕ, List, [], ◌∷◌, codes, Option, None, Some, refl}
use Prim.Native.String.{String}
use Rattle.step_maps.specs.declared.stretch.FirstItem.{FirstItem}
use Rattle.step_maps.specs.Stepping.{Stepping, held_from}
use Rattle.sym_lookup.specs.AnswerTexts.{call_at}
use Rattle.sym_judge.specs.declared.aliases.Numbered.TheVariants.{Files, Origins}
use Rattle.sym_judge.specs.declared.names.CallSpot.{CallSpot}
use Rattle.sym_judge.specs.declared.chain_numbers.Entry.{Entry}
use Rattle.sym_judge.specs.declared.chain_numbers.Entry.TheVariants.{Call, Joined}
use Rattle.sym_judge.specs.internal.Aliases.{name_of}
use Rattle.sym_judge.proofs.Computing.{sym_judge_computes}
use Rattle.sym_judge.proofs.WorkedAlike.{records}
use Rattle.sym_judge.specs.internal.Chains.{shown, shown_call, shown_calls, One, Two, calls_of_tree, IsNumberOf, is_full}

-- A call of `g` in line 7, and in it a call in line 8. The other file has other numbers, and the
-- inner call first.
abbrev own : String
own = "FILE 0 a\nINLINE_ORIGIN 0 g\nFUNC 1000 40 0 f\nINLINE 0 7 0 0 1000 20\nINLINE 1 8 0 0 1010 8\n"

abbrev other : String
other = "FILE 9 a\nINLINE_ORIGIN 5 g\nFUNC 1000 40 0 f\nINLINE 1 8 9 5 1010 8\nINLINE 0 7 9 5 1000 20\n"

the_same_call : shown (call_at (records own) 4) ≡ shown (call_at (records other) 5)
unfolding records sym_judge_computes
the_same_call = refl

-- A call, by the numbers of the first file.
abbrev call : ℕ → CallSpot
call line = record { origin = Some 0; spot = record { file = Some 0; line = line } }

named_by_the_first : shown_call (records own) (call 7) ≡ shown (call_at (records other) 5)
unfolding records sym_judge_computes
named_by_the_first = refl

no_origin : shown_call (records own) (record { origin = None; spot = record { file = Some 0; line = 7 } }) ≡ (codes "<name omitted>", (Some (codes "a"), 7))
unfolding records sym_judge_computes
no_origin = refl

the_same_chain : calls_of_tree (records own) (Two (One (call 7)) (One (call 8))) ≡ shown_calls (records other) (5 ∷ 4 ∷ [])
unfolding records sym_judge_computes
the_same_chain = refl

-- The number 2 stands for the calls of 0 and 1, one in the other.
abbrev entries : List Entry
entries = Call (call 7) ∷ Call (call 8) ∷ Joined 0 1 ∷ []

of_two : IsNumberOf entries (Two (One (call 7)) (One (call 8))) 2
of_two = (0, 1, refl, refl, refl)

-- A level with a record from 16 up to 32.
abbrev level : Stepping (Option FirstItem)
level = record { stops = 16 ∷ 32 ∷ []; values = Some (record { index = 4; class = 0; shared = false }) ∷ None ∷ [] }

within : is_full (level ∷ level ∷ []) 31 ≡ true
unfolding held_from
within = refl

behind : is_full (level ∷ level ∷ []) 32 ≡ false
unfolding held_from
behind = refl

one_name : name_of Origins (records own) 0 ≡ name_of Origins (records other) 5
unfolding records sym_judge_computes
one_name = refl

no_name : name_of Files (records own) 9 ≡ None
unfolding records sym_judge_computes
no_name = refl
