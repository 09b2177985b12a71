-- What is stored of the records under a FUNC.
use Rattle.std.proofs.Common.{◌≡◌, ◌+◌, ◌-◌, ◌<◌, ◌≤◌, ◌^◌, ◌++◌, ℕ, zero, suc, List, [], ◌∷◌, length, get_or, take, drop, Option, None, Some, refl, sym, ap, subst, ◌∙◌, arith, append_assoc, append-nil, drop-cons}
use Rattle.std.specs.List.{position_from}
use Rattle.std.specs.Option.{option_map_or}
use Rattle.std.proofs.lemmas.List.{drop-take}
use Rattle.sym_records.specs.declared.line.SymLine.{SymLine}
use Rattle.sym_records.specs.declared.line.SymLine.TheVariants.{Inline, Line}
use Rattle.sym_meaning.specs.TextNames.{under, is_line_at, is_inline_at, level_count}
use Rattle.step_maps.specs.Stepping.{Stepping}
use Rattle.step_maps.specs.declared.stretch.FirstItem.{FirstItem}
use Rattle.sym_lookup.specs.declared.stretches.Kind.TheVariants as kind
use Rattle.sym_lookup.specs.Answers.{chain_from, chain_places, line_place}
use Rattle.sym_lookup.specs.PlaceMaps.{place_in, IsPlaceMap}
use Rattle.sym_lookup.specs.UnderOf.{chain_in, part, AreSearchable, IsUnder, AreUnders}
use Rattle.sym_lookup.specs.declared.under.Under.{Under}
use Rattle.sym_lookup.specs.internal.Kinds.{is_at}
use Rattle.sym_lookup.specs.UnderOf.{AreRising}
use Rattle.sym_lookup.proofs.PlaceLemmas.{stops_at}
use Rattle.sym_lookup.proofs.RisingLemmas.{SkipsTo}

abbrev pub Maps : Type 0
Maps = List (Stepping (Option FirstItem))

-- The places that maps give, followed by others if all maps give one.
abbrev pub chain_then : Maps → ℕ → List ℕ → List ℕ
chain_then [] x tail = tail
chain_then (map ∷ maps) x tail = option_map_or (λ place. place ∷ chain_then maps x tail) (place_in map x) []

chain_ends : (maps : Maps) (x : ℕ) → chain_in maps x ≡ chain_then maps x []
chain_ends [] x = refl
chain_ends (map ∷ maps) x = ap (λ later. option_map_or (λ place. place ∷ later) (place_in map x) []) (chain_ends maps x)

chain_pushed : (maps : Maps) (map : Stepping (Option FirstItem)) (x : ℕ) (tail : List ℕ) → chain_then (maps ++ map ∷ []) x tail ≡ chain_then maps x (option_map_or (λ place. place ∷ tail) (place_in map x) [])
chain_pushed [] map x tail = refl
chain_pushed (m ∷ maps) map x tail = ap (λ later. option_map_or (λ place. place ∷ later) (place_in m x) []) (chain_pushed maps map x tail)

-- The maps of the levels below `level` are made.
abbrev pub LevelsTo : ℕ → List SymLine → ℕ → ℕ → Maps → Type 0
LevelsTo first records count level maps = (x : ℕ) → x < 2 ^ 64 → chain_then maps x (chain_from first x level (count - level) records) ≡ chain_from first x 0 (level_count records) records

level_step : (first x level count : ℕ) (records : List SymLine) → level < count
    → option_map_or (λ place. place ∷ chain_from first x (level + 1) (count - (level + 1)) records) (position_from (is_inline_at level x) first records) [] ≡ chain_from first x level (count - level) records
level_step first x level count records l = let one : count - level ≡ suc (count - (level + 1)) = omega arith in ap (λ n. chain_from first x level n records) (sym one)

pub levels_more : (first level count : ℕ) (records : List SymLine) (maps next : Maps) (map : Stepping (Option FirstItem)) → LevelsTo first records count level maps → IsPlaceMap (λ x. position_from (is_at (kind.Level level) x) first records) map → level < count → next ≡ maps ++ map ∷ []
    → LevelsTo first records count (level + 1) next
levels_more first level count records maps next map before is l n x fits =
    let tail : List ℕ = chain_from first x (level + 1) (count - (level + 1)) records in
    ap (λ ms. chain_then ms x tail) n
    ∙ chain_pushed maps map x tail
    ∙ ap (λ place. chain_then maps x (option_map_or (λ p. p ∷ tail) place [])) (is.places x fits)
    ∙ ap (chain_then maps x) (level_step first x level count records l)
    ∙ before x fits

-- A level without records ends the levels.
pub levels_stop : (first level count : ℕ) (records : List SymLine) (maps : Maps) → LevelsTo first records count level maps → ((x : ℕ) → x < 2 ^ 64 → position_from (is_inline_at level x) first records ≡ None) → (x : ℕ) → x < 2 ^ 64
    → chain_in maps x ≡ chain_from first x 0 (level_count records) records
levels_stop first level count records maps before none x fits = chain_ends maps x ∙ ap (chain_then maps x) (sym (stops_at first x level (count - level) records (none x fits))) ∙ before x fits

pub levels_all : (first level count : ℕ) (records : List SymLine) (maps : Maps) → LevelsTo first records count level maps → count ≤ level → (x : ℕ) → x < 2 ^ 64 → chain_in maps x ≡ chain_from first x 0 (level_count records) records
levels_all first level count records maps before l x fits =
    let none : count - level ≡ 0 = omega arith in
    chain_ends maps x ∙ ap (λ n. chain_then maps x (chain_from first x level n records)) (sym none) ∙ before x fits

-- The places at an address, map by map.
map_at : (maps : Maps) (at x : ℕ) (map : Stepping (Option FirstItem)) → map ≡ get_or maps at map → at < length maps → chain_in (drop at maps) x ≡ option_map_or (λ place. place ∷ chain_in (drop (suc at) maps) x) (place_in map x) []
map_at maps at x map is l = ap (λ ms. chain_in ms x) (drop-cons maps at map l ∙ ap (λ m. m ∷ drop (suc at) maps) (sym is))

pub chain_more : (maps : Maps) (at x place : ℕ) (map : Stepping (Option FirstItem)) (done next all : List ℕ) → done ++ chain_in (drop at maps) x ≡ all → map ≡ get_or maps at map → at < length maps → place_in map x ≡ Some place → next ≡ done ++ place ∷ []
    → next ++ chain_in (drop (at + 1) maps) x ≡ all
chain_more maps at x place map done next all before is l h n =
    let one : at + 1 ≡ suc at = omega arith in
    let rest : List ℕ = chain_in (drop (suc at) maps) x in
    ap (λ m. next ++ chain_in (drop m maps) x) one
    ∙ ap (λ ps. ps ++ rest) n
    ∙ append_assoc done (place ∷ []) rest
    ∙ ap (λ o. done ++ option_map_or (λ p. p ∷ rest) o []) (sym h)
    ∙ ap (λ ps. done ++ ps) (sym (map_at maps at x map is l))
    ∙ before

pub chain_stops : (maps : Maps) (at x : ℕ) (map : Stepping (Option FirstItem)) (done all : List ℕ) → done ++ chain_in (drop at maps) x ≡ all → map ≡ get_or maps at map → at < length maps → place_in map x ≡ None → done ≡ all
chain_stops maps at x map done all before is l h =
    let rest : List ℕ = chain_in (drop (suc at) maps) x in
    sym (append-nil done) ∙ ap (λ o. done ++ option_map_or (λ p. p ∷ rest) o []) (sym h) ∙ ap (λ ps. done ++ ps) (sym (map_at maps at x map is l)) ∙ before

none_left : (maps : Maps) (at x : ℕ) → length maps ≤ at → chain_in (drop at maps) x ≡ []
none_left [] zero x l = refl
none_left [] (suc at) x l = refl
none_left (m ∷ maps) zero x l = absurd (omega arith)
none_left (m ∷ maps) (suc at) x l = none_left maps at x (omega arith)

pub chain_all : (maps : Maps) (at x : ℕ) (done all : List ℕ) → done ++ chain_in (drop at maps) x ≡ all → length maps ≤ at → done ≡ all
chain_all maps at x done all before l = sym (append-nil done) ∙ ap (λ ps. done ++ ps) (sym (none_left maps at x l)) ∙ before

-- The records under a FUNC are the first of those after it.
under_front : (rest : List SymLine) → under rest ≡ take (length (under rest)) rest
under_front [] = refl
under_front (Inline level line file origin ranges ∷ rest) = ap (λ rs. Inline level line file origin ranges ∷ rs) (under_front rest)
under_front (Line address size line file ∷ rest) = ap (λ rs. Line address size line file ∷ rs) (under_front rest)
under_front (s ∷ rest) = refl

drop_twice : (m n : ℕ) (lines : List SymLine) → drop n (drop m lines) ≡ drop (m + n) lines
drop_twice zero n lines = let one : 0 + n ≡ n = omega arith in ap (λ k. drop k lines) (sym one)
drop_twice (suc m) zero [] = let one : suc m + 0 ≡ suc m = omega arith in ap (λ k. drop k []) (sym one)
drop_twice (suc m) (suc n) [] = let one : suc m + suc n ≡ suc (m + suc n) = omega arith in sym (ap (λ k. drop k []) one)
drop_twice (suc m) n (s ∷ lines) = let one : suc m + n ≡ suc (m + n) = omega arith in drop_twice m n lines ∙ sym (ap (λ k. drop k (s ∷ lines)) one)

part_is : (lines : List SymLine) (from skip : ℕ) → skip ≤ length (under (drop from lines)) → part (from + skip) (from + length (under (drop from lines))) lines ≡ drop skip (under (drop from lines))
part_is lines from skip l =
    let n : ℕ = length (under (drop from lines)) in
    let size : from + n - (from + skip) ≡ n - skip = omega arith in
    let whole : n ≡ skip + (n - skip) = omega arith in
    ap (λ k. take k (drop (from + skip) lines)) size
    ∙ ap (take (n - skip)) (sym (drop_twice from skip lines))
    ∙ sym (drop-take skip (n - skip) (drop from lines))
    ∙ ap (λ k. drop skip (take k (drop from lines))) (sym whole)
    ∙ ap (drop skip) (sym (under_front (drop from lines)))

pub searchable : (lines records back : List SymLine) (func skip : ℕ) → records ≡ under (drop (func + 1) lines) → func + 1 + length records ≤ length lines → skip ≤ length records → SkipsTo records skip → back ≡ drop skip records → AreRising 0 back
    → AreSearchable lines func (func + 1 + skip) (func + 1 + length records)
unfolding line_place
searchable lines records back func skip is within l same cut rises =
    let size : length records ≡ length (under (drop (func + 1) lines)) = ap length is in
    let piece : part (func + 1 + skip) (func + 1 + length records) lines ≡ drop skip records
    = ap (λ n. part (func + 1 + skip) (func + 1 + n) lines) size ∙ part_is lines (func + 1) skip (omega arith) ∙ ap (drop skip) (sym is) in
    record {
      ordered = omega arith;
      within = within;
      rising = subst (AreRising 0) (cut ∙ sym piece) rises;
      line = λ x. ap (position_from (is_line_at x) (func + 1 + skip)) piece ∙ same (func + 1) x ∙ ap (position_from (is_line_at x) (func + 1)) is;
    }

pub lines_map : (lines records : List SymLine) (func : ℕ) (map : Stepping (Option FirstItem)) → records ≡ under (drop (func + 1) lines) → IsPlaceMap (λ x. position_from (is_at kind.Lines x) (func + 1) records) map → IsPlaceMap (line_place lines func) map
unfolding line_place
lines_map lines records func map is h = record { places = λ x l. h.places x l ∙ ap (position_from (is_line_at x) (func + 1)) is }

pub chain_held : (lines records : List SymLine) (func : ℕ) (maps : Maps) → records ≡ under (drop (func + 1) lines) → ((x : ℕ) → x < 2 ^ 64 → chain_in maps x ≡ chain_from (func + 1) x 0 (level_count records) records)
    → (x : ℕ) → x < 2 ^ 64 → chain_in maps x ≡ chain_places lines func x
unfolding chain_places
chain_held lines records func maps is h x fits = h x fits ∙ ap (λ rs. chain_from (func + 1) x 0 (level_count rs) rs) is

pub unders_joined : (lines : List SymLine) (unders : List Under) (u : Under) → AreUnders lines unders → IsUnder lines u → AreUnders lines (unders ++ u ∷ [])
unders_joined lines [] u are is = (is, tt)
unders_joined lines (v ∷ unders) u are is = (are.0, unders_joined lines unders u are.1 is)

pub under_among : (lines : List SymLine) (unders : List Under) (at : ℕ) (d : Under) → AreUnders lines unders → at < length unders → IsUnder lines (get_or unders at d)
under_among lines [] at d are l = absurd (omega arith)
under_among lines (u ∷ unders) zero d are l = are.0
under_among lines (u ∷ unders) (suc at) d are l = under_among lines unders at d are.1 (omega arith)

pub under_there : (unders : List Under) (at : ℕ) (u : Under) → u ≡ get_or unders at u → at < length unders → (lines : List SymLine) → AreUnders lines unders → IsUnder lines u
under_there unders at u is l lines are = subst (IsUnder lines) (sym is) (under_among lines unders at u are l)
