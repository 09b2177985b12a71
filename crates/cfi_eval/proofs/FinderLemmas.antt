-- The last run that contains an address, found by the stretches of runs.
use Rattle.std.proofs.Common.{◌≡◌, ◌-◌, ◌<◌, ◌≤◌, ◌^◌, ◌++◌, ℕ, zero, suc, Bool, true, false, cond, List, [], ◌∷◌, length, get_or, take, Option, None, Some, refl, sym, ap, ◌∙◌, arith, append_assoc, append-nil}
use Rattle.std.specs.List.{slice_get}
use Rattle.std.specs.Option.{option_map, option_map_or, option_and_then, option_or}
use Rattle.std.proofs.lemmas.List.{take_all, get_or_default}
use Rattle.std.proofs.lemmas.Option.{slice_get-get_or}
use Rattle.step_maps.specs.declared.stretch.Stretch.{Stretch}
use Rattle.step_maps.specs.declared.stretch.FirstItem.{FirstItem}
use Rattle.step_maps.specs.Stepping.{Stepping, value_at}
use Rattle.step_maps.specs.Covers.{first_at, index_at, first_item, is_shared}
use Rattle.step_maps.proofs.IndexLemmas.{found_joined, cut_at}
use Rattle.cfi_eval.specs.declared.memory.MemRun.{MemRun}
use Rattle.cfi_eval.specs.Bytes.{byte_at, holds}
use Rattle.cfi_eval.specs.internal.Rising.{byte_in}
use Rattle.cfi_eval.specs.internal.Finders.{run_stretch, stretches_to, byte_of, IsRunMap}
use Rattle.cfi_eval.proofs.MemoryLemmas.{last_found}

-- The stretches, made run by run from the last on.
pub stretches_more : (runs : List MemRun) (place : ℕ) (run : MemRun) (done next all : List Stretch) → 0 < place → place ≤ length runs → run ≡ get_or runs (place - 1) run → done ++ stretches_to place runs ≡ all → next ≡ done ++ run_stretch (place - 1) run
    → next ++ stretches_to (place - 1) runs ≡ all
stretches_more runs zero run done next all some l is h n = absurd (omega arith)
stretches_more runs (suc place) run done next all some l is h n =
    let one : suc place - 1 ≡ place = omega arith in
    let there : slice_get runs place ≡ Some run = slice_get-get_or runs place run (omega arith) ∙ ap Some (ap (λ i. get_or runs i run) (sym one) ∙ sym is) in
    ap (λ i. next ++ stretches_to i runs) one
    ∙ ap (λ xs. xs ++ stretches_to place runs) (n ∙ ap (λ i. done ++ run_stretch i run) one)
    ∙ append_assoc done (run_stretch place run) (stretches_to place runs)
    ∙ ap (λ o. done ++ (option_map_or (run_stretch place) o [] ++ stretches_to place runs)) (sym there)
    ∙ h

pub stretches_all : (runs : List MemRun) (place : ℕ) (done all : List Stretch) → place ≤ 0 → done ++ stretches_to place runs ≡ all → done ≡ all
stretches_all runs zero done all l h = sym (append-nil done) ∙ h
stretches_all runs (suc place) done all l h = absurd (omega arith)

-- A run has the same addresses as its stretch.
one_run : (n : ℕ) (run : MemRun) (x : ℕ) → x < 2 ^ 64 → index_at (run_stretch n run) x ≡ cond (holds x run) (Some n) None
one_run n run x l = cut_at n run.start (length run.bytes) x l

abbrev byte_by : ℕ → List MemRun → Option ℕ → Option ℕ
byte_by a runs found = option_and_then (byte_of a runs) found

first_run : (a n : ℕ) (runs : List MemRun) (run : MemRun) (later : Option ℕ) (b : Bool) → slice_get runs n ≡ Some run → holds a run ≡ b
    → byte_by a runs (option_or (cond b (Some n) None) later) ≡ option_or (byte_in a run) (byte_by a runs later)
first_run a n runs run later true there is = rw (there, is) refl
first_run a n runs run later false there is = rw is refl

found_to : (a n : ℕ) (runs : List MemRun) → a < 2 ^ 64 → n ≤ length runs → byte_by a runs (index_at (stretches_to n runs) a) ≡ byte_at (take n runs) a
unfolding index_at first_at byte_at
found_to a zero runs l few = refl
found_to a (suc n) [] l few = absurd (omega arith)
found_to a (suc n) (first ∷ runs) l few =
    let all : List MemRun = first ∷ runs in
    let run : MemRun = get_or all n first in
    let there : slice_get all n ≡ Some run = slice_get-get_or all n first (omega arith) in
    let one : suc n - 1 ≡ n = omega arith in
    ap (λ o. byte_by a all (index_at (option_map_or (run_stretch n) o [] ++ stretches_to n all) a)) there
    ∙ ap (byte_by a all) (found_joined (run_stretch n run) (stretches_to n all) a ∙ ap (λ o. option_or o (index_at (stretches_to n all) a)) (one_run n run a l))
    ∙ first_run a n all run (index_at (stretches_to n all) a) (holds a run) there refl
    ∙ ap (option_or (byte_in a run)) (found_to a n all l (omega arith))
    ∙ sym (last_found all a (suc n) run (omega arith) few (get_or_default all n first run (omega arith) ∙ ap (λ i. get_or all i run) (sym one)) ∙ ap (λ i. option_or (byte_in a run) (byte_at (take i all) a)) one)

item_index : (items : List Stretch) (x : ℕ) (find_byte : ℕ → Option ℕ) → option_and_then (λ (i : FirstItem). find_byte i.index) (first_item items x) ≡ option_and_then find_byte (index_at items x)
unfolding index_at first_item
item_index items x find_byte = go (first_at items x)
  where
    go : (s : Option Stretch) → option_and_then (λ (i : FirstItem). find_byte i.index) (option_map (λ (t : Stretch). record { index = t.index; class = t.class; shared = is_shared items x }) s) ≡ option_and_then find_byte (option_map (λ (t : Stretch). t.index) s)
    go None = refl
    go (Some s) = refl

pub map_is : (runs : List MemRun) (items : List Stretch) (map : Stepping (Option FirstItem)) → items ≡ stretches_to (length runs) runs → ((a : ℕ) → a < 2 ^ 64 → value_at None map a ≡ first_item items a)
    → IsRunMap runs map
map_is runs items map same h = λ a l.
    ap (option_and_then (λ (item : FirstItem). byte_of a runs item.index)) (h a l)
    ∙ item_index items a (byte_of a runs)
    ∙ ap (λ is. byte_by a runs (index_at is a)) same
    ∙ found_to a (length runs) runs l (omega arith)
    ∙ ap (λ r. byte_at r a) (take_all (length runs) runs (omega arith))
