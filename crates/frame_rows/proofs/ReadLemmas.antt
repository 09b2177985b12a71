-- Lists of instructions, and the reasons and states that result from them. The lemmas are for the
-- loops `run_to_end` and `run_to_next_row`.
use Rattle.std.proofs.Common.{◌≡◌, ◌≢◌, ℕ, ◌==◌, true, false, List, [], ◌∷◌, Some, None, refl, ap, arith}
use Rattle.std.proofs.lemmas.Bool.Decides.{nat_tests}
use Rattle.sym_edges.specs.declared.reason.Reason.{Reason}
use Rattle.frame_rows.specs.Context.{Context}
use Rattle.frame_rows.specs.Instructions.{Item}
use Rattle.frame_rows.specs.Machine.{Machine}
use Rattle.std.specs.Option.{option_or}
use Rattle.frame_rows.specs.Rows.{item_stepped, item_fault, all_stepped, first_fault}

-- A byte is left.
pub some_left : (n : ℕ) → false ≡ (n == 0) → n ≢ 0
some_left n is = grind (arith, nat_tests)

-- No byte is left.
pub none_left : (n : ℕ) → true ≡ (n == 0) → n ≡ 0
none_left n is = grind (arith, nat_tests)

pub fault_none : (s : Context) (m : Machine) → first_fault s [] m ≡ None
unfolding first_fault
fault_none s m = refl

pub fault_more : (s : Context) (i : Item) (items : List Item) (m : Machine) → item_fault s i m ≡ None → first_fault s (i ∷ items) m ≡ first_fault s items (item_stepped s i m)
unfolding first_fault
fault_more s i items m good = ap (λ o. option_or o (first_fault s items (item_stepped s i m))) good

pub fault_here : (s : Context) (i : Item) (items : List Item) (m : Machine) (why : Reason) → item_fault s i m ≡ Some why → first_fault s (i ∷ items) m ≡ Some why
unfolding first_fault
fault_here s i items m why bad = ap (λ o. option_or o (first_fault s items (item_stepped s i m))) bad

pub stepped_none : (s : Context) (m : Machine) → all_stepped s [] m ≡ m
unfolding all_stepped
stepped_none s m = refl

pub stepped_more : (s : Context) (i : Item) (items : List Item) (m : Machine) → all_stepped s (i ∷ items) m ≡ all_stepped s items (item_stepped s i m)
unfolding all_stepped
stepped_more s i items m = refl
