-- Chains of inlined calls, stored by numbers, and what is known of two functions.
use Rattle.std.specs.Prelude.{◌≡◌, ℕ, ◌<◌, ◌^◌, ◌++◌, Bool, true, false, List, [], ◌∷◌, map, codes, Option, Some, slice_get}
use Rattle.std.specs.List.{All}
use Rattle.std.specs.Option.{option_and_then, option_map_or, unwrap_or}
use Rattle.std.specs.Str.{bytes_eq}
use Rattle.sym_records.specs.declared.line.SymLine.{SymLine}
use Rattle.sym_meaning.specs.TextNames.{Call, text_origin}
use Rattle.step_maps.specs.declared.stretch.FirstItem.{FirstItem}
use Rattle.step_maps.specs.Stepping.{Stepping, value_at}
use Rattle.sym_lookup.specs.Answers.{chain_places}
use Rattle.sym_lookup.specs.AnswerTexts.{call_at, call_name, func_name_at}
use Rattle.sym_lookup.specs.PlaceMaps.{place_in}
use Rattle.sym_lookup.specs.UnderOf.{chain_in}
use Rattle.sym_judge.specs.declared.names.CallSpot.{CallSpot}
use Rattle.sym_judge.specs.declared.chain_numbers.Entry.{Entry}
use Rattle.sym_judge.specs.declared.chain_numbers.Entry.TheVariants as entry
use Rattle.sym_judge.specs.declared.chains.ChainPart.{ChainPart}
use Rattle.sym_judge.specs.declared.chains.ChainPart.TheVariants.{Nothing, Whole, Ended, Unlike}
use Rattle.sym_judge.specs.declared.chains.FuncChains.{FuncChains}
use Rattle.sym_judge.specs.declared.function_pairs.FuncPair.{FuncPair}
use Rattle.sym_judge.specs.declared.function_pairs.FuncMeetings.{FuncMeetings}
use Rattle.sym_judge.specs.internal.Spots.{spot_view, call_spot_of}

-- what is compared of a call: the name that is shown, and its path and line
abbrev pub Shown : Type 0
Shown = List ℕ × (Option (List ℕ) × ℕ)

abbrev pub shown : Call → Shown
shown call = (call_name call, call_spot_of call)

-- what is compared of a call that is given by a file's numbers
abbrev pub shown_call : List SymLine → CallSpot → Shown
shown_call own call = (unwrap_or (option_and_then (text_origin own) call.origin) (codes "<name omitted>"), spot_view own call.spot)

-- a chain: one call, or two chains joined
pub data ChainTree : Type 0 where
  One : (call : CallSpot) → ChainTree
  Two : (front back : ChainTree) → ChainTree

abbrev pub calls_of_tree : List SymLine → ChainTree → List Shown
calls_of_tree own (One call) = shown_call own call ∷ []
calls_of_tree own (Two front back) = calls_of_tree own front ++ calls_of_tree own back

-- in the list of entries, the number stands for the tree of a chain
abbrev pub IsNumberOf : List Entry → ChainTree → ℕ → Type 0
IsNumberOf entries (One call) n = slice_get entries n ≡ Some (entry.Call call)
IsNumberOf entries (Two front back) n = (i : ℕ) × (j : ℕ) × (slice_get entries n ≡ Some (entry.Joined i j)) × IsNumberOf entries front i × IsNumberOf entries back j

-- a number stands for a chain of calls
pub record Means (own : List SymLine) (entries : List Entry) (n : ℕ) (calls : List Shown) : Type 0 where
  pub tree : ChainTree
  pub number : IsNumberOf entries tree n
  pub are : calls ≡ calls_of_tree own tree

-- each number keeps its entry in the new list
abbrev pub Keeps : List Entry → List Entry → Type 0
Keeps old new = (n : ℕ) (e : Entry) → slice_get old n ≡ Some e → slice_get new n ≡ Some e

-- a part stands for the calls of some levels; `full` says whether each level has a call
abbrev pub IsPart : List SymLine → List Entry → List Shown → Bool → ChainPart → Type 0
IsPart own entries calls full Nothing = (calls ≡ []) × (full ≡ false)
IsPart own entries calls full (Whole n) = Means own entries n calls × (full ≡ true)
IsPart own entries calls full (Ended n) = Means own entries n calls × (full ≡ false)
IsPart own entries calls full Unlike = Unit {0}

-- the call of the INLINE at a place, if there is one; then the calls at several places
abbrev pub calls_there : List SymLine → Option ℕ → List Shown
calls_there lines place = option_map_or (λ place. shown (call_at lines place) ∷ []) place []

abbrev pub shown_calls : List SymLine → List ℕ → List Shown
shown_calls lines places = map (λ place. shown (call_at lines place)) places

-- whether each level has a record at an address
abbrev pub is_full : List (Stepping (Option FirstItem)) → ℕ → Bool
is_full [] x = true
is_full (level ∷ levels) x = option_map_or (λ place. is_full levels x) (place_in level x) false

-- at each address the map has the part for the calls of some levels
pub record AreMapped (own lines : List SymLine) (entries : List Entry) (levels : List (Stepping (Option FirstItem))) (map : Stepping ChainPart) : Type 0 where
  pub parts : (x : ℕ) → x < 2 ^ 64 → IsPart own entries (shown_calls lines (chain_in levels x)) (is_full levels x) (value_at Nothing map x)

-- the part stands for these calls, whether or not each level has a call
pub record IsPartOf (own : List SymLine) (entries : List Entry) (calls : List Shown) (part : ChainPart) : Type 0 where
  pub full : Bool
  pub is : IsPart own entries calls full part

-- at each address the map has the part for the chain of a FUNC
pub record IsChainMap (own lines : List SymLine) (entries : List Entry) (func : ℕ) (map : Stepping ChainPart) : Type 0 where
  pub parts : (x : ℕ) → x < 2 ^ 64 → IsPartOf own entries (shown_calls lines (chain_places lines func x)) (value_at Nothing map x)

abbrev pub AreFuncChains : List SymLine → List SymLine → List Entry → List FuncChains → Type 0
AreFuncChains own lines entries funcs = All (λ f. IsChainMap own lines entries f.func f.chains) funcs

-- the pair says whether its two functions have one name
pub record IsFuncPair (own other : List SymLine) (pair : FuncPair) : Type 0 where
  pub named : pair.same_name ≡ bytes_eq (func_name_at own pair.met.own) (func_name_at other pair.met.other)

abbrev pub AreFuncPairs : List SymLine → List SymLine → List FuncPair → Type 0
AreFuncPairs own other pairs = All (IsFuncPair own other) pairs

-- the chains of functions of both files, numbered by the same entries
pub record AreNumbered (own other : List SymLine) (mine theirs : List FuncChains) : Type 0 where
  pub entries : List Entry
  pub first : AreFuncChains own own entries mine
  pub second : AreFuncChains own other entries theirs

-- what is known of functions that meet, which means that they are the first of their files at some
-- address
pub record AreFuncMeetings (own other : List SymLine) (met : FuncMeetings) : Type 0 where
  pub pairs : AreFuncPairs own other met.pairs.items
  pub chains : AreNumbered own other met.own.items met.other.items
