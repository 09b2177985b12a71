-- Lemmas about chains of calls that have numbers, for `chains` and `names`.
use Rattle.std.proofs.Common.{◌≡◌, ◌<◌, ◌≤◌, ◌^◌, ◌&&◌, nat_le, nat_eq, ℕ, suc, Bool, true, false, cond, List, [], ◌∷◌, ◌++◌, map, length, take, drop, get_or, Option, None, Some, IfSome, refl, sym, ap, subst, ◌∙◌, arith, ◌⊎◌, inl, inr}
use Rattle.std.specs.Prelude.{slice_get}
use Rattle.std.specs.Bool.{OnTrue}
use Rattle.std.specs.Option.{option_map_or, is_some}
use Rattle.std.proofs.lemmas.Bool.{cases_lt}
use Rattle.std.proofs.lemmas.Bool.Decides.{nat_tests}
use Rattle.std.proofs.lemmas.Option.{slice_get-get_or, slice_get_past}
use Rattle.std.proofs.lemmas.List.{take-append-drop}
use Rattle.std.proofs.lemmas.List.Elements.{All-push}
use Rattle.std.specs.List.Sorted.{IsNonDecreasingBy}
use Rattle.sym_edges.proofs.RisingLemmas.{rises_sorted}
use Rattle.sym_records.specs.declared.line.SymLine.{SymLine}
use Rattle.step_maps.specs.declared.stretch.FirstItem.{FirstItem}
use Rattle.step_maps.specs.Stepping.{Stepping, IsStepping, held_from, value_at}
use Rattle.step_maps.proofs.SteppingLemmas.{Point}
use Rattle.sym_lookup.specs.Answers.{chain_places}
use Rattle.sym_lookup.specs.AnswerTexts.{call_at, call_name}
use Rattle.sym_lookup.specs.PlaceMaps.{IsBefore, IsPlaceRun, place_in}
use Rattle.sym_lookup.specs.UnderOf.{chain_in}
use Rattle.sym_lookup.specs.declared.answers.PlaceRun.{PlaceRun}
use Rattle.sym_meaning.specs.TextNames.{Call}
use Rattle.std.specs.Str.{bytes_eq}
use Rattle.sym_judge.specs.Alike.{same_option, same_list, same_call}
use Rattle.sym_judge.specs.declared.function_pairs.FuncMeetings.{FuncMeetings}
use Rattle.sym_judge.specs.declared.names.CallSpot.{CallSpot}
use Rattle.sym_judge.specs.declared.chain_numbers.Entry.{Entry}
use Rattle.sym_judge.specs.declared.chain_numbers.Entry.TheVariants as entry
use Rattle.sym_judge.specs.declared.chains.FuncChains.{FuncChains}
use Rattle.sym_judge.specs.declared.chains.ChainPart.{ChainPart}
use Rattle.sym_judge.specs.declared.chains.ChainPart.TheVariants.{Nothing, Whole, Ended, Unlike}
use Rattle.sym_judge.specs.internal.Chains.{Shown, shown, shown_call, ChainTree, One, Two, calls_of_tree, IsNumberOf, Means, Keeps, IsPart, IsPartOf, calls_there, shown_calls, is_full, AreMapped, IsChainMap, AreFuncChains, AreFuncMeetings}
use Rattle.sym_judge.proofs.SameLemmas.{and_both, number_self, bytes_tell}
use Rattle.sym_judge.proofs.AliasLemmas.{texts_tell}

abbrev Levels : Type 0
Levels = List (Stepping (Option FirstItem))

-- What is true of a number stays true in a longer list of entries.
kept_number : (old new : List Entry) → Keeps old new → (t : ChainTree) (n : ℕ) → IsNumberOf old t n → IsNumberOf new t n
kept_number old new keeps (One call) n is = keeps n (entry.Call call) is
kept_number old new keeps (Two front back) n is = (is.0, is.1, keeps n (entry.Joined is.0 is.1) is.2, kept_number old new keeps front is.0 is.3, kept_number old new keeps back is.1 is.4)

kept_means : (own : List SymLine) (old new : List Entry) (n : ℕ) (calls : List Shown) → Keeps old new → Means own old n calls → Means own new n calls
kept_means own old new n calls keeps m = record { tree = m.tree; number = kept_number old new keeps m.tree n m.number; are = m.are }

pub kept_part : (own : List SymLine) (old new : List Entry) (calls : List Shown) (full : Bool) (part : ChainPart) → Keeps old new → IsPart own old calls full part → IsPart own new calls full part
kept_part own old new calls full Nothing keeps is = is
kept_part own old new calls full (Whole n) keeps is = (kept_means own old new n calls keeps is.0, is.1)
kept_part own old new calls full (Ended n) keeps is = (kept_means own old new n calls keeps is.0, is.1)
kept_part own old new calls full Unlike keeps is = tt

-- A number stands for only one chain.
one_tree : (entries : List Entry) (s t : ChainTree) (n : ℕ) → IsNumberOf entries s n → IsNumberOf entries t n → s ≡ t
one_tree entries (One c) (One d) n p q = let same : c ≡ d = cc (p, q) in ap One same
one_tree entries (One c) (Two front back) n p q = absurd (cc (p, q.2))
one_tree entries (Two front back) (One c) n p q = absurd (cc (p.2, q))
one_tree entries (Two front back) (Two first second) n p q =
    let i : q.0 ≡ p.0 = cc (p.2, q.2) in
    let j : q.1 ≡ p.1 = cc (p.2, q.2) in
    let one : front ≡ first = one_tree entries front first p.0 p.3 (subst (IsNumberOf entries first) i q.3) in
    let two : back ≡ second = one_tree entries back second p.1 p.4 (subst (IsNumberOf entries second) j q.4) in
    ap (λ f. Two f back) one ∙ ap (Two first) two

one_chain : (own : List SymLine) (entries : List Entry) (n : ℕ) (c d : List Shown) → Means own entries n c → Means own entries n d → c ≡ d
one_chain own entries n c d p q = p.are ∙ ap (calls_of_tree own) (one_tree entries p.tree q.tree n p.number q.number) ∙ sym q.are

-- The chain of one call, and the chain made of two chains.
pub one_call : (own : List SymLine) (entries : List Entry) (number : Option ℕ) (call : CallSpot) (calls : List Shown) → calls ≡ shown_call own call ∷ [] → IfSome number (λ n. slice_get entries n ≡ Some (entry.Call call)) → IfSome number (λ n. Means own entries n calls)
one_call own entries None call calls are is = tt
one_call own entries (Some n) call calls are is = record { tree = One call; number = is; are = are }

two_chains : (own : List SymLine) (old new : List Entry) (number : Option ℕ) (i j : ℕ) (c d : List Shown) → Keeps old new → IfSome number (λ n. slice_get new n ≡ Some (entry.Joined i j)) → Means own old i c → Means own old j d → IfSome number (λ n. Means own new n (c ++ d))
two_chains own old new None i j c d keeps is p q = tt
two_chains own old new (Some n) i j c d keeps is p q = record {
  tree = Two p.tree q.tree;
  number = (i, j, is, kept_number old new keeps p.tree i p.number, kept_number old new keeps q.tree j q.number);
  are = ap (λ xs. xs ++ d) p.are ∙ ap (λ ys. calls_of_tree own p.tree ++ ys) q.are;
}

-- Either all first levels have calls, or the later levels do not count.
pub some_behind : (own : List SymLine) (old new : List Entry) (number : Option ℕ) (part : ChainPart) (i j : ℕ) (c d : List Shown) (f g : Bool) → Keeps old new → IfSome number (λ n. slice_get new n ≡ Some (entry.Joined i j))
    → ((own : List SymLine) (entries : List Entry) (calls : List Shown) → IfSome number (λ n. Means own entries n calls) → IsPart own entries calls f part) → Means own old i c → Means own old j d × (g ≡ f) → IsPart own new (c ++ d) g part
some_behind own old new number part i j c d f g keeps is told m back =
    subst (λ b. IsPart own new (c ++ d) b part) (sym back.1) (told own new (c ++ d) (two_chains own old new number i j c d keeps is m back.0))

-- The chain of levels, made of the chain of the first ones and that of the others.
chain_cut : (ms ns : Levels) (x : ℕ) → chain_in (ms ++ ns) x ≡ cond (is_full ms x) (chain_in ms x ++ chain_in ns x) (chain_in ms x)
chain_cut [] ns x = refl
chain_cut (m ∷ ms) ns x = by (place_in m x) (chain_cut ms ns x)
  where
    pushed : (p : ℕ) (b : Bool) (xs ys : List ℕ) → p ∷ cond b xs ys ≡ cond b (p ∷ xs) (p ∷ ys)
    pushed p true xs ys = refl
    pushed p false xs ys = refl

    by : (o : Option ℕ) → chain_in (ms ++ ns) x ≡ cond (is_full ms x) (chain_in ms x ++ chain_in ns x) (chain_in ms x)
        → option_map_or (λ place. place ∷ chain_in (ms ++ ns) x) o [] ≡ cond (option_map_or (λ place. is_full ms x) o false) (option_map_or (λ place. place ∷ chain_in ms x) o [] ++ chain_in ns x) (option_map_or (λ place. place ∷ chain_in ms x) o [])
    by None is = refl
    by (Some p) is = ap (λ places. p ∷ places) is ∙ pushed p (is_full ms x) (chain_in ms x ++ chain_in ns x) (chain_in ms x)

full_cut : (ms ns : Levels) (x : ℕ) → is_full (ms ++ ns) x ≡ (is_full ms x && is_full ns x)
full_cut [] ns x = refl
full_cut (m ∷ ms) ns x = by (place_in m x) (full_cut ms ns x)
  where
    by : (o : Option ℕ) → is_full (ms ++ ns) x ≡ (is_full ms x && is_full ns x) → option_map_or (λ place. is_full (ms ++ ns) x) o false ≡ (option_map_or (λ place. is_full ms x) o false && is_full ns x)
    by None is = refl
    by (Some p) is = is

shown_joined : (lines : List SymLine) (xs ys : List ℕ) → shown_calls lines (xs ++ ys) ≡ shown_calls lines xs ++ shown_calls lines ys
shown_joined lines [] ys = refl
shown_joined lines (x ∷ xs) ys = ap (λ calls. shown (call_at lines x) ∷ calls) (shown_joined lines xs ys)

shown_cond : (lines : List SymLine) (b : Bool) (xs ys : List ℕ) → shown_calls lines (cond b (xs ++ ys) xs) ≡ cond b (shown_calls lines xs ++ shown_calls lines ys) (shown_calls lines xs)
shown_cond lines true xs ys = shown_joined lines xs ys
shown_cond lines false xs ys = refl

shown_cut : (lines : List SymLine) (ms ns : Levels) (x : ℕ) → shown_calls lines (chain_in (ms ++ ns) x) ≡ cond (is_full ms x) (shown_calls lines (chain_in ms x) ++ shown_calls lines (chain_in ns x)) (shown_calls lines (chain_in ms x))
shown_cut lines ms ns x = ap (shown_calls lines) (chain_cut ms ns x) ∙ shown_cond lines (is_full ms x) (chain_in ms x) (chain_in ns x)

-- Two addresses between which there is no stop.
held_same : {V : Type 0} (before : V) (stops : List ℕ) (values : List V) (x y : ℕ) → ((k : ℕ) → k < length stops → nat_le (get_or stops k 0) x ≡ nat_le (get_or stops k 0) y) → held_from before stops values x ≡ held_from before stops values y
unfolding held_from
held_same before [] values x y same = refl
held_same before (s ∷ stops) [] x y same = refl
held_same before (s ∷ stops) (v ∷ values) x y same = ap (λ b. held_from (cond b v before) stops values x) (same 0 (omega arith)) ∙ held_same (cond (nat_le s y) v before) stops values x y (λ k l. same (suc k) (omega arith))

pub run_above : (stops : List ℕ) (x i : ℕ) (end : Option ℕ) → Point stops x i → end ≡ slice_get stops i → IsBefore end x
run_above stops x i end point is = subst (λ o. IsBefore o x) (sym is) (elim (cases_lt i (length stops)) [
  | inl l ↦
      let over : nat_le (get_or stops i 0) x ≡ false = point.1 i 0 (omega arith) l in
      let more : x < get_or stops i 0 = grind (arith, nat_tests) in
      subst (λ o. IsBefore o x) (sym (slice_get-get_or stops i 0 l)) more
  | inr m ↦ subst (λ o. IsBefore o x) (sym (slice_get_past stops i m)) tt
])

pub run_steady : (steps : Stepping ChainPart) (stops : List ℕ) (x i : ℕ) (end : Option ℕ) (part : ChainPart) → IsStepping steps.stops steps.values → stops ≡ steps.stops → Point stops x i → end ≡ slice_get stops i → part ≡ value_at Nothing steps x
    → (y : ℕ) → x ≤ y → IsBefore end y → value_at Nothing steps y ≡ part
run_steady steps stops x i end part stepping same point is told y low before = sym (held_same Nothing steps.stops steps.values x y each) ∙ sym told
  where
    found : Point steps.stops x i
    found = subst (λ ss. Point ss x i) same point

    next : i < length steps.stops → y < get_or steps.stops i 0
    next l = subst (λ o. IsBefore o y) (is ∙ ap (λ ss. slice_get ss i) same ∙ slice_get-get_or steps.stops i 0 l) before

    rises : IsNonDecreasingBy (λ s. s) steps.stops
    rises = rises_sorted 0 steps.stops stepping.rising

    each : (k : ℕ) → k < length steps.stops → nat_le (get_or steps.stops k 0) x ≡ nat_le (get_or steps.stops k 0) y
    each k l = elim (cases_lt k i) [
      | inl less ↦
          let under : nat_le (get_or steps.stops k 0) x ≡ true = found.0 k 0 (omega arith) less in
          let too : nat_le (get_or steps.stops k 0) y ≡ true = grind (arith, nat_tests) in
          under ∙ sym too
      | inr more ↦
          let over : nat_le (get_or steps.stops k 0) x ≡ false = found.1 k 0 more l in
          let up : get_or steps.stops i 0 ≤ get_or steps.stops k 0 = rises i k 0 more l in
          let far : y < get_or steps.stops i 0 = next (omega arith) in
          let too : nat_le (get_or steps.stops k 0) y ≡ false = grind (arith, nat_tests) in
          over ∙ sym too
    ]

-- The map is right for all addresses below this one.
pub record AreMappedTo (own lines : List SymLine) (entries : List Entry) (levels : Levels) (address : ℕ) (steps : Stepping ChainPart) : Type 0 where
  pub parts : (x : ℕ) → x < address → x < 2 ^ 64 → IsPart own entries (shown_calls lines (chain_in levels x)) (is_full levels x) (value_at Nothing steps x)

abbrev pub IsSet : ℕ → ChainPart → Stepping ChainPart → Stepping ChainPart → Type 0
IsSet from part old new = (before : ChainPart) (a : ℕ) → value_at before new a ≡ cond (nat_le from a) part (value_at before old a)

one_run_more : (own lines : List SymLine) (old new : List Entry) (levels : Levels) (address : ℕ) (end : Option ℕ) (part : ChainPart) (steps more : Stepping ChainPart) → Keeps old new → IsSet address part steps more → AreMappedTo own lines old levels address steps
    → ((x : ℕ) → address ≤ x → x < 2 ^ 64 → IsBefore end x → IsPart own new (shown_calls lines (chain_in levels x)) (is_full levels x) part)
    → (x : ℕ) → x < 2 ^ 64 → IsBefore end x → IsPart own new (shown_calls lines (chain_in levels x)) (is_full levels x) (value_at Nothing more x)
one_run_more own lines old new levels address end part steps more keeps set so told x fits before = elim (cases_lt x address) [
  | inl less ↦
      let no : nat_le address x ≡ false = grind (arith, nat_tests) in
      let is : value_at Nothing more x ≡ value_at Nothing steps x = set Nothing x ∙ ap (λ b. cond b part (value_at Nothing steps x)) no in
      subst (IsPart own new (shown_calls lines (chain_in levels x)) (is_full levels x)) (sym is) (kept_part own old new _ _ (value_at Nothing steps x) keeps (so.parts x less fits))
  | inr over ↦
      let yes : nat_le address x ≡ true = grind (arith, nat_tests) in
      let is : value_at Nothing more x ≡ part = set Nothing x ∙ ap (λ b. cond b part (value_at Nothing steps x)) yes in
      subst (IsPart own new (shown_calls lines (chain_in levels x)) (is_full levels x)) (sym is) (told x over fits before)
]

abbrev RunTold : List SymLine → List SymLine → List Entry → Levels → ℕ → Option ℕ → Stepping ChainPart → Type 0
RunTold own lines new levels address end steps = (x : ℕ) → x < 2 ^ 64 → IsBefore end x → IsPart own new (shown_calls lines (chain_in levels x)) (is_full levels x) (value_at Nothing steps x)

-- One level.
one_level : (lines : List SymLine) (level : Stepping (Option FirstItem)) (x : ℕ) → shown_calls lines (chain_in (level ∷ []) x) ≡ calls_there lines (place_in level x)
one_level lines level x = by (place_in level x)
  where
    by : (o : Option ℕ) → shown_calls lines (option_map_or (λ place. place ∷ []) o []) ≡ calls_there lines o
    by None = refl
    by (Some p) = refl

one_full : (level : Stepping (Option FirstItem)) (x : ℕ) → is_full (level ∷ []) x ≡ is_some (place_in level x)
one_full level x = by (place_in level x)
  where
    by : (o : Option ℕ) → option_map_or (λ place. true) o false ≡ is_some o
    by None = refl
    by (Some p) = refl

level_run : (own lines : List SymLine) (old new : List Entry) (level : Stepping (Option FirstItem)) (address : ℕ) (run : PlaceRun) (part : ChainPart) (steps more : Stepping ChainPart) → Keeps old new → IsSet address part steps more → IsPlaceRun (place_in level) address run
    → IsPart own new (calls_there lines run.place) (is_some run.place) part → AreMappedTo own lines old (level ∷ []) address steps → RunTold own lines new (level ∷ []) address run.end more
level_run own lines old new level address run part steps more keeps set is told so = one_run_more own lines old new (level ∷ []) address run.end part steps more keeps set so
    (λ x l fits before.
    let place : place_in level x ≡ run.place = is.places x l fits before in
    let calls : shown_calls lines (chain_in (level ∷ []) x) ≡ calls_there lines run.place = one_level lines level x ∙ ap (calls_there lines) place in
    let full : is_full (level ∷ []) x ≡ is_some run.place = one_full level x ∙ ap is_some place in
    subst (λ b. IsPart own new (shown_calls lines (chain_in (level ∷ []) x)) b part) (sym full) (subst (λ cs. IsPart own new cs (is_some run.place) part) (sym calls) told))

pub level_more : (own lines : List SymLine) (old new : List Entry) (level : Stepping (Option FirstItem)) (address end : ℕ) (run : PlaceRun) (part : ChainPart) (steps more : Stepping ChainPart) → Keeps old new → IsSet address part steps more → IsPlaceRun (place_in level) address run
    → IsPart own new (calls_there lines run.place) (is_some run.place) part → run.end ≡ Some end → AreMappedTo own lines old (level ∷ []) address steps → AreMappedTo own lines new (level ∷ []) end more
level_more own lines old new level address end run part steps more keeps set is told ends so = record {
  parts = λ x l fits. level_run own lines old new level address run part steps more keeps set is told so x fits (subst (λ o. IsBefore o x) (sym ends) l);
}

pub level_done : (own lines : List SymLine) (old new : List Entry) (level : Stepping (Option FirstItem)) (address : ℕ) (run : PlaceRun) (part : ChainPart) (steps more : Stepping ChainPart) → Keeps old new → IsSet address part steps more → IsPlaceRun (place_in level) address run
    → IsPart own new (calls_there lines run.place) (is_some run.place) part → run.end ≡ None → AreMappedTo own lines old (level ∷ []) address steps → AreMapped own lines new (level ∷ []) more
level_done own lines old new level address run part steps more keeps set is told ends so = record {
  parts = λ x fits. level_run own lines old new level address run part steps more keeps set is told so x fits (subst (λ o. IsBefore o x) (sym ends) tt);
}

-- Two maps are joined.
abbrev pub Joins : List Entry → List Entry → ChainPart → ChainPart → ChainPart → Type 0
Joins old new front back part = (own : List SymLine) (c d : List Shown) (f g : Bool) → IsPart own old c f front → IsPart own old d g back → IsPart own new (cond f (c ++ d) c) (f && g) part

joined_run : (own lines : List SymLine) (first old new : List Entry) (ms ns : Levels) (front back : Stepping ChainPart) (address : ℕ) (end ends ended : Option ℕ) (p q part : ChainPart) (steps more : Stepping ChainPart) → Keeps first old → Keeps old new → IsSet address part steps more
    → ((y : ℕ) → address ≤ y → IsBefore ends y → value_at Nothing front y ≡ p) → ((y : ℕ) → address ≤ y → IsBefore ended y → value_at Nothing back y ≡ q) → ((x : ℕ) → IsBefore end x → IsBefore ends x × IsBefore ended x) → Joins old new p q part
    → AreMapped own lines first ms front → AreMapped own lines first ns back → AreMappedTo own lines old (ms ++ ns) address steps → RunTold own lines new (ms ++ ns) address end more
joined_run own lines first old new ms ns front back address end ends ended p q part steps more kept keeps set mine theirs both told fs bs so = one_run_more own lines old new (ms ++ ns) address end part steps more keeps set so
    (λ x l fits before.
    let one : IsPart own old (shown_calls lines (chain_in ms x)) (is_full ms x) p = subst (IsPart own old (shown_calls lines (chain_in ms x)) (is_full ms x)) (mine x l (both x before).0) (kept_part own first old _ _ (value_at Nothing front x) kept (fs.parts x fits)) in
    let two : IsPart own old (shown_calls lines (chain_in ns x)) (is_full ns x) q = subst (IsPart own old (shown_calls lines (chain_in ns x)) (is_full ns x)) (theirs x l (both x before).1) (kept_part own first old _ _ (value_at Nothing back x) kept (bs.parts x fits)) in
    subst (λ b. IsPart own new (shown_calls lines (chain_in (ms ++ ns) x)) b part) (sym (full_cut ms ns x))
    (subst (λ cs. IsPart own new cs (is_full ms x && is_full ns x) part) (sym (shown_cut lines ms ns x)) (told own _ _ _ _ one two)))

pub joined_more : (own lines : List SymLine) (first old new : List Entry) (ms ns : Levels) (front back : Stepping ChainPart) (address next : ℕ) (end ends ended : Option ℕ) (p q part : ChainPart) (steps more : Stepping ChainPart) → Keeps first old → Keeps old new → IsSet address part steps more
    → ((y : ℕ) → address ≤ y → IsBefore ends y → value_at Nothing front y ≡ p) → ((y : ℕ) → address ≤ y → IsBefore ended y → value_at Nothing back y ≡ q) → ((x : ℕ) → IsBefore end x → IsBefore ends x × IsBefore ended x) → Joins old new p q part → end ≡ Some next
    → AreMapped own lines first ms front → AreMapped own lines first ns back → AreMappedTo own lines old (ms ++ ns) address steps → AreMappedTo own lines new (ms ++ ns) next more
joined_more own lines first old new ms ns front back address next end ends ended p q part steps more kept keeps set mine theirs both told is fs bs so = record {
  parts = λ x l fits. joined_run own lines first old new ms ns front back address end ends ended p q part steps more kept keeps set mine theirs both told fs bs so x fits (subst (λ o. IsBefore o x) (sym is) l);
}

pub joined_done : (own lines : List SymLine) (first old new : List Entry) (ms ns : Levels) (front back : Stepping ChainPart) (address : ℕ) (end ends ended : Option ℕ) (p q part : ChainPart) (steps more : Stepping ChainPart) → Keeps first old → Keeps old new → IsSet address part steps more
    → ((y : ℕ) → address ≤ y → IsBefore ends y → value_at Nothing front y ≡ p) → ((y : ℕ) → address ≤ y → IsBefore ended y → value_at Nothing back y ≡ q) → ((x : ℕ) → IsBefore end x → IsBefore ends x × IsBefore ended x) → Joins old new p q part → end ≡ None
    → AreMapped own lines first ms front → AreMapped own lines first ns back → AreMappedTo own lines old (ms ++ ns) address steps → AreMapped own lines new (ms ++ ns) more
joined_done own lines first old new ms ns front back address end ends ended p q part steps more kept keeps set mine theirs both told is fs bs so = record {
  parts = λ x fits. joined_run own lines first old new ms ns front back address end ends ended p q part steps more kept keeps set mine theirs both told fs bs so x fits (subst (λ o. IsBefore o x) (sym is) tt);
}

pub kept_map : (own lines : List SymLine) (old new : List Entry) (levels : Levels) (steps : Stepping ChainPart) → Keeps old new → AreMapped own lines old levels steps → AreMapped own lines new levels steps
kept_map own lines old new levels steps keeps are = record { parts = λ x fits. kept_part own old new _ _ (value_at Nothing steps x) keeps (are.parts x fits) }

-- The map of some levels, from the maps of both halves.
pub halves_mapped : (own lines : List SymLine) (first second new : List Entry) (levels front back : Levels) (half : ℕ) (mine theirs steps : Stepping ChainPart) → front ≡ take half levels → back ≡ drop half levels → Keeps first second → AreMapped own lines first front mine → AreMapped own lines second back theirs
    → ((own lines : List SymLine) (ms ns : Levels) → AreMapped own lines second ms mine → AreMapped own lines second ns theirs → AreMapped own lines new (ms ++ ns) steps) → AreMapped own lines new levels steps
halves_mapped own lines first second new levels front back half mine theirs both e f keeps fs bs told =
    subst (λ ls. AreMapped own lines new ls both) (ap (λ ls. ls ++ back) e ∙ ap (λ ls. take half levels ++ ls) f ∙ take-append-drop half levels) (told own lines front back (kept_map own lines first second front mine keeps fs) bs)

-- The map of a FUNC.
pub map_of_func : (own lines : List SymLine) (entries : List Entry) (levels : Levels) (func : ℕ) (steps : Stepping ChainPart) → ((x : ℕ) → x < 2 ^ 64 → chain_in levels x ≡ chain_places lines func x) → AreMapped own lines entries levels steps → IsChainMap own lines entries func steps
map_of_func own lines entries levels func steps chain are = record {
  parts = λ x fits. record { full = is_full levels x; is = subst (λ places. IsPart own entries (shown_calls lines places) (is_full levels x) (value_at Nothing steps x)) (chain x fits) (are.parts x fits) };
}

-- Calls that have one number.
pub no_calls : (a b : ChainPart) (same : Bool) → a ≡ Nothing → OnTrue same ((own : List SymLine) (entries : List Entry) (calls : List Shown) (full : Bool) → IsPart own entries calls full b → calls ≡ [])
    → OnTrue same ((own : List SymLine) (entries : List Entry) (c d : List Shown) (f g : Bool) → IsPart own entries c f a → IsPart own entries d g b → c ≡ d)
no_calls a b false nothing told = tt
no_calls a b true nothing told = λ own entries c d f g p q. (let one : IsPart own entries c f Nothing = subst (IsPart own entries c f) nothing p in one.0 ∙ sym (told own entries d g q))

pub same_calls : (a b : ChainPart) (number : ℕ) (same : Bool) → (a ≡ Whole number) ⊎ (a ≡ Ended number) → OnTrue same ((own : List SymLine) (entries : List Entry) (calls : List Shown) (full : Bool) → IsPart own entries calls full b → Means own entries number calls)
    → OnTrue same ((own : List SymLine) (entries : List Entry) (c d : List Shown) (f g : Bool) → IsPart own entries c f a → IsPart own entries d g b → c ≡ d)
same_calls a b number false cases told = tt
same_calls a b number true (inl whole) told = λ own entries c d f g p q. (let one : IsPart own entries c f (Whole number) = subst (IsPart own entries c f) whole p in one_chain own entries number c d one.0 (told own entries d g q))
same_calls a b number true (inr ended) told = λ own entries c d f g p q. (let one : IsPart own entries c f (Ended number) = subst (IsPart own entries c f) ended p in one_chain own entries number c d one.0 (told own entries d g q))

-- The maps of some functions.
pub func_there : (funcs : List FuncChains) (at func : ℕ) (f : FuncChains) → f ≡ get_or funcs at f → at < length funcs → f.func ≡ func → (own lines : List SymLine) (entries : List Entry) → AreFuncChains own lines entries funcs → IsChainMap own lines entries func f.chains
func_there funcs at func f is l named own lines entries are = subst (λ n. IsChainMap own lines entries n f.chains) named (subst (λ (g : FuncChains). IsChainMap own lines entries g.func g.chains) (sym is) (are at f l))

pub kept_funcs : (own lines : List SymLine) (old new : List Entry) (funcs : List FuncChains) → Keeps old new → AreFuncChains own lines old funcs → AreFuncChains own lines new funcs
kept_funcs own lines old new funcs keeps are = λ at d l. record {
  parts = λ x fits. (let p : IsPartOf own old (shown_calls lines (chain_places lines (get_or funcs at d).func x)) (value_at Nothing (get_or funcs at d).chains x) = (are at d l).parts x fits in record { full = p.full; is = kept_part own old new _ p.full _ keeps p.is });
}

pub one_more_func : (own lines : List SymLine) (old new : List Entry) (levels : Levels) (funcs more : List FuncChains) (f : FuncChains) → Keeps old new → more ≡ funcs ++ f ∷ [] → AreFuncChains own lines old funcs
    → ((x : ℕ) → x < 2 ^ 64 → chain_in levels x ≡ chain_places lines f.func x) → AreMapped own lines new levels f.chains → AreFuncChains own lines new more
one_more_func own lines old new levels funcs more f keeps is are chain mapped =
    subst (AreFuncChains own lines new) (sym is) (All-push (λ (g : FuncChains). IsChainMap own lines new g.func g.chains) funcs f (kept_funcs own lines old new funcs keeps are) (map_of_func own lines new levels f.func f.chains chain mapped))

-- Calls that are shown alike are the same.
same_calls_shown : (a b : Call) → shown a ≡ shown b → same_call a b ≡ true
same_calls_shown a b e =
    let name : call_name a ≡ call_name b = ap (λ (s : Shown). s.0) e in
    let path : a.path ≡ b.path = ap (λ (s : Shown). s.1.0) e in
    let line : a.line ≡ b.line = ap (λ (s : Shown). s.1.1) e in
    and_both _ _ (ap (bytes_eq (call_name a)) (sym name) ∙ bytes_tell.self (call_name a)) (and_both _ _ (ap (same_option bytes_eq a.path) (sym path) ∙ texts_tell.self a.path) (ap (nat_eq a.line) (sym line) ∙ number_self a.line))

same_shown : (own other : List SymLine) (xs ys : List ℕ) → shown_calls own xs ≡ shown_calls other ys → same_list same_call (map (call_at own) xs) (map (call_at other) ys) ≡ true
same_shown own other [] [] e = refl
same_shown own other [] (y ∷ ys) e = absurd (cc)
same_shown own other (x ∷ xs) [] e = absurd (cc)
same_shown own other (x ∷ xs) (y ∷ ys) e =
    let one : shown (call_at own x) ≡ shown (call_at other y) = cc in
    let rest : shown_calls own xs ≡ shown_calls other ys = cc in
    and_both _ _ (same_calls_shown (call_at own x) (call_at other y) one) (same_shown own other xs ys rest)

abbrev HasMap : List FuncChains → ℕ → Stepping ChainPart → Type 0
HasMap funcs func map = (own lines : List SymLine) (entries : List Entry) → AreFuncChains own lines entries funcs → IsChainMap own lines entries func map

pub one_chain_at : (met : FuncMeetings) (i j x : ℕ) (first second : List FuncChains) (a b : Stepping ChainPart) (p q : ChainPart) (same : Bool) → x < 2 ^ 64 → first ≡ met.own.items → second ≡ met.other.items → HasMap first i a → HasMap second j b
    → p ≡ value_at Nothing a x → q ≡ value_at Nothing b x → OnTrue same ((own : List SymLine) (entries : List Entry) (c d : List Shown) (f g : Bool) → IsPart own entries c f p → IsPart own entries d g q → c ≡ d)
    → OnTrue same ((own other : List SymLine) → AreFuncMeetings own other met → same_list same_call (map (call_at own) (chain_places own i x)) (map (call_at other) (chain_places other j x)) ≡ true)
one_chain_at met i j x first second a b p q false fits e f mine theirs is_p is_q told = tt
one_chain_at met i j x first second a b p q true fits e f mine theirs is_p is_q told = λ own other are.
    let entries = are.chains.entries in
    let one : IsPartOf own entries (shown_calls own (chain_places own i x)) (value_at Nothing a x) = (mine own own entries (subst (AreFuncChains own own entries) (sym e) are.chains.first)).parts x fits in
    let two : IsPartOf own entries (shown_calls other (chain_places other j x)) (value_at Nothing b x) = (theirs own other entries (subst (AreFuncChains own other entries) (sym f) are.chains.second)).parts x fits in
    same_shown own other (chain_places own i x) (chain_places other j x)
    (told own entries _ _ one.full two.full (subst (IsPart own entries (shown_calls own (chain_places own i x)) one.full) (sym is_p) one.is) (subst (IsPart own entries (shown_calls other (chain_places other j x)) two.full) (sym is_q) two.is))
