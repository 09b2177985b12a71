-- The covers of the stretches of all functions are the pieces.
use Rattle.std.proofs.Common.{◌≡◌, ℕ, zero, suc, ◌+◌, ◌<◌, ◌≤◌, map, length, List, [], ◌∷◌, Option, None, Some, arith, refl, sym, ap, ◌∙◌, append-nil, subst}
use Rattle.std.proofs.lemmas.Bool.Decides.{nat_tests}
use Rattle.std.proofs.lemmas.Option.{slice_get_within}
use Rattle.std.specs.List.{slice_get}
use Rattle.std.specs.Option.{option_map}
use Rattle.step_maps.specs.declared.stretch.Stretch.{Stretch}
use Rattle.step_maps.specs.declared.stretch.Cover.{Cover}
use Rattle.step_maps.specs.Runs.{between, AreMaximal}
use Rattle.step_maps.specs.Covers.{first_at, index_at, cover_run}
use Rattle.step_maps.proofs.MaximalLemmas.{maximal}
use Rattle.debug_units.specs.declared.unit_read.UnitRead.{UnitRead}
use Rattle.debug_units.specs.UnitEntries.{places}
use Rattle.debug_units.specs.Owners.{Covering}
use Rattle.debug_units.specs.declared.unit_read.EntryRef.{EntryRef}
use Rattle.func_flatten.specs.declared.piece.Piece.{Piece}
use Rattle.func_flatten.specs.Pieces.{place_of, covering_name, owner_place, piece_run, AreMarked, ArePieces}
use Rattle.step_maps.specs.SpanStretches.{AreFit}
use Rattle.func_flatten.specs.internal.Collecting.{all_functions, function_stretches, own_class, HaveSets, Numbered, first_function, piece_of, AreCut}
use Rattle.func_flatten.specs.internal.Classes.{place_at, TellMany, AreNamedCovers}
use Rattle.func_flatten.specs.internal.Standing.{IsCollected, StandFor, Rise, place_key}
use Rattle.func_flatten.proofs.MappedRuns.{map_run, AllValues, values_hold, runs_mapped}
use Rattle.func_flatten.proofs.StandLemmas.{map_length, get_mapped}
use Rattle.func_flatten.proofs.FunctionLemmas.{index_is, owner_is, first_at_number}

key_from : (low high : ℕ) (functions : List Covering) (j : ℕ) → Rise low high functions → j < length (map place_of functions) → low ≤ place_key (place_at (map place_of functions) j)
key_from low high [] j rise within = absurd (omega arith)
key_from low high (c ∷ functions) zero rise within = rise.0
key_from low high (c ∷ functions) (suc j) rise within = omega (arith, rise.0, key_from (place_key (place_of c) + 1) high functions j rise.1 (omega arith))

-- No two functions are the same entry.
one_place : (low high : ℕ) (functions : List Covering) → Rise low high functions → (i j : ℕ) → i < length (map place_of functions) → j < length (map place_of functions) → place_at (map place_of functions) i ≡ place_at (map place_of functions) j → i ≡ j
one_place low high [] rise i j p q same = absurd (omega arith)
one_place low high (c ∷ functions) rise zero zero p q same = refl
one_place low high (c ∷ functions) rise zero (suc j) p q same =
    absurd (omega (arith, key_from (place_key (place_of c) + 1) high functions j rise.1 (omega arith), ap place_key same))
one_place low high (c ∷ functions) rise (suc i) zero p q same =
    absurd (omega (arith, key_from (place_key (place_of c) + 1) high functions i rise.1 (omega arith), ap place_key same))
one_place low high (c ∷ functions) rise (suc i) (suc j) p q same = omega (arith, one_place (place_key (place_of c) + 1) high functions rise.1 i j (omega arith) (omega arith) same)

found_fit : (items : List Stretch) (a k : ℕ) → AreFit items → index_at items a ≡ Some k → a + 1 < 18446744073709551616
unfolding index_at first_at
found_fit [] a k fit is = absurd (cc)
found_fit (s ∷ items) a k fit is = grind (arith, nat_tests, is, fit.1, found_fit items a k fit.2)

none_by : (o : Option ℕ) (a : ℕ) → 18446744073709551616 ≤ a → ((k : ℕ) → o ≡ Some k → a + 1 < 18446744073709551616) → o ≡ None
none_by None a high fit = refl
none_by (Some k) a high fit = absurd (omega (arith, fit k refl))

-- No stretch has an address of 2^64 or more.
inside_all : (items : List Stretch) (a : ℕ) → AreFit items → between 0 18446744073709551616 (index_at items) a ≡ index_at items a
inside_all items a fit =
    let none : 18446744073709551616 ≤ a → index_at items a ≡ None = λ high. none_by (index_at items a) a high (λ k is. found_fit items a k fit is) in
    grind (arith, nat_tests, none)

placed_by : (functions : List Covering) (o : Option Numbered) → ((m : Numbered) → o ≡ Some m → slice_get functions m.number ≡ Some m.function) → option_map (place_at (map place_of functions)) (option_map (λ m. m.number) o) ≡ option_map place_of (option_map (λ m. m.function) o)
placed_by functions None at = refl
placed_by functions (Some m) at = ap Some (get_mapped functions m.number m.function (at m refl))

number_by : (functions : List Covering) (o : Option Numbered) (k : ℕ) → option_map (λ m. m.number) o ≡ Some k → ((m : Numbered) → o ≡ Some m → slice_get functions m.number ≡ Some m.function) → k < length functions
number_by functions None k is at = absurd (cc)
number_by functions (Some m) k is at = (let same : m.number ≡ k = cc in let less = slice_get_within functions m.number m.function (at m refl) in omega arith)

-- Each index is the number of a function.
pub index_below : (functions : List Covering) (a k : ℕ) → HaveSets functions → index_at (function_stretches own_class 0 functions) a ≡ Some k → k < length functions
index_below functions a k all is = number_by functions (first_function a 0 functions) k (sym (index_is own_class functions a all) ∙ is) (λ m at. first_at_number a functions m at)

-- The owner, by the number of its function.
owner_at : (units : List UnitRead) (functions : List Covering) (a : ℕ) → HaveSets functions → StandFor (covering_name units) (all_functions units) functions → option_map (place_at (map place_of functions)) (index_at (function_stretches own_class 0 functions) a) ≡ owner_place units a
unfolding owner_place
owner_at units functions a all s =
    ap (option_map (place_at (map place_of functions))) (index_is own_class functions a all)
    ∙ placed_by functions (first_function a 0 functions) (λ m at. first_at_number a functions m at)
    ∙ ap (option_map place_of) (sym (owner_is units functions a s))

-- The runs of the pieces are those of the covers, with entries instead of numbers.
runs_of_pieces : (places : List EntryRef) (covers : List Cover) → map piece_run (map (piece_of places) covers) ≡ map (map_run (place_at places)) (map cover_run covers)
runs_of_pieces places [] = refl
runs_of_pieces places (c ∷ covers) = ap (λ l. map_run (place_at places) (cover_run c) ∷ l) (runs_of_pieces places covers)

marks_of_pieces : (units : List UnitRead) (places : List EntryRef) (covers : List Cover) → TellMany units covers → AreMarked units (map (piece_of places) covers)
marks_of_pieces units places [] marks = tt
marks_of_pieces units places (c ∷ covers) marks = (marks.0, marks_of_pieces units places covers marks.1)

pieces_whole : (units : List UnitRead) (functions : List Covering) (low : ℕ) (covers : List Cover) → HaveSets functions → StandFor (covering_name units) (all_functions units) functions → Rise 0 low functions → AreFit (function_stretches own_class 0 functions) → AreNamedCovers units (function_stretches own_class 0 functions) covers
    → ArePieces units (map (piece_of (map place_of functions)) covers)
pieces_whole units functions low covers all s rise fit is =
    let items = function_stretches own_class 0 functions in
    let count = length (map place_of functions) in
    record {
      runs =
          rw runs_of_pieces
          (runs_mapped (λ k. k < count) (place_at (map place_of functions))
          (λ i j p q same. one_place _ _ functions rise i j p q same)
          (between 0 18446744073709551616 (index_at items)) (owner_place units) (map cover_run covers) is.runs
          (λ a k found. (let less : k < length functions = index_below functions a k all (sym (inside_all items a fit) ∙ found) in let same = map_length functions in omega arith))
          (λ a. ap (option_map (place_at (map place_of functions))) (inside_all items a fit) ∙ owner_at units functions a all s));
      marks = marks_of_pieces units (map place_of functions) covers is.marks;
    }

-- If no entry is left, the functions that were passed are all functions.
pub stand_all : (units : List UnitRead) (places : List EntryRef) (stretches : List Stretch) (low : ℕ) (c : IsCollected units places stretches low []) → StandFor (covering_name units) (all_functions units) c.functions
stand_all units places stretches low c = subst (λ (l : List Covering). StandFor (covering_name units) l c.functions) (sym (append-nil c.passed) ∙ c.whole) c.stand

-- The covers of the collected stretches give the pieces.
pub pieces_are : (units : List UnitRead) (places : List EntryRef) (stretches : List Stretch) (covers : List Cover) (pieces : List Piece) → (low : ℕ) × IsCollected units places stretches low [] → AreFit stretches → AreNamedCovers units stretches covers → pieces ≡ map (piece_of places) covers → ArePieces units pieces
pieces_are units places stretches covers pieces found fit is same =
    let c = found.1 in
    let P : List Stretch → Type 0 = λ l. AreFit l in
    let Q : List Stretch → Type 0 = λ l. AreNamedCovers units l covers in
    let R : List Piece → Type 0 = λ l. ArePieces units l in
    subst R (sym (same ∙ ap (λ l. map (piece_of l) covers) c.placed))
    (pieces_whole units c.functions found.0 covers c.sets (stand_all units places stretches found.0 c) c.rise (subst P c.stretched fit) (subst Q c.stretched is))

cut_all : (count : ℕ) (items : List Stretch) (covers : List Cover) → AreFit items → AllValues (λ k. k < count) (map cover_run covers) → AreMaximal (between 0 18446744073709551616 (index_at items)) (map cover_run covers) → AreCut count covers
cut_all count items [] fit below all = tt
cut_all count items (c ∷ covers) fit below all =
    (let order : c.first < c.last + 1 = all.0.some in
    (below.0, found_fit items c.last c.index fit (sym (inside_all items c.last fit) ∙ all.0.constant c.last (omega arith) (omega arith)), cut_all count items covers fit below.1 all.1))

-- Each cover has a function, and an end below 2^64.
pub covers_cut : (units : List UnitRead) (places : List EntryRef) (stretches : List Stretch) (covers : List Cover) → (low : ℕ) × IsCollected units places stretches low [] → AreFit stretches → AreNamedCovers units stretches covers → AreCut (length places) covers
covers_cut units places stretches covers found fit is =
    let c = found.1 in
    let count : length places ≡ length c.functions = ap length c.placed ∙ map_length c.functions in
    let f = between 0 18446744073709551616 (index_at stretches) in
    cut_all (length places) stretches covers fit
    (values_hold (λ k. k < length places) f (map cover_run covers) is.runs
    (λ a k found. (let there : index_at (function_stretches own_class 0 c.functions) a ≡ Some k = ap (λ l. index_at l a) (sym c.stretched) ∙ sym (inside_all stretches a fit) ∙ found in
    let less : k < length c.functions = index_below c.functions a k c.sets there in omega arith)))
    (maximal f (map cover_run covers) is.runs)
