-- The walk over the stops of a line table.
use Rattle.std.proofs.Common.{◌≡◌, ℕ, zero, suc, ◌+◌, ◌<◌, ◌≤◌, Bool, true, false, ◌&&◌, ◌==◌, nat_le, if◌then◌else◌, map, length, drop, subst, List, [], ◌∷◌, ◌++◌, Option, None, Some, IfSome, unwrap_or, arith, refl, sym, ap, ◌∙◌, inl, inr}
use Rattle.std.proofs.lemmas.Bool.Decides.{nat_tests}
use Rattle.std.proofs.lemmas.Slice.Eq.{bytes_eq-Decides}
use Rattle.std.specs.Str.{bytes_eq}
use Rattle.std.specs.List.{slice_get, slice_index_or, slice_set}
use Rattle.step_maps.specs.Runs.{IsRuns, between}
use Rattle.sym_edges.specs.Rising.{RisesFrom}
use Rattle.step_maps.proofs.SteppingLemmas.{Point}
use Rattle.std.proofs.lemmas.List.{drop_more}
use Rattle.line_program.specs.LineMaps.{LineMap, numbered_line, named_line, NoStopBetween}
use Rattle.line_program.proofs.TableLemmas.{same_between}
use Rattle.func_flatten.specs.declared.line_run.LineRun.{LineRun}
use Rattle.func_flatten.specs.declared.piece.Piece.{Piece}
use Rattle.func_flatten.specs.LineRuns.{number_line_in, unit_number_line, unit_line, unit_paths, paths_in, path_line, path_run, AreStarted, AreLineRuns}
use Rattle.debug_units.specs.declared.unit_read.UnitRead.{UnitRead}
use Rattle.debug_units.specs.Owners.{line_in}
use Rattle.std.specs.Option.{option_map}
use Rattle.func_flatten.specs.internal.Growing.{added, added_after, Grown, same_line, continues, with_run_after, with_run, with_part, AreKnown, IsKnown, Walks}
use Rattle.func_flatten.proofs.GrowingRuns.{Compares, grown_none, grown_some, grown_empty}

pair_same : (u v : List ℕ × ℕ) → u.0 ≡ v.0 → u.1 ≡ v.1 → u ≡ v
pair_same u v left right = (let f : List ℕ → List ℕ × ℕ = λ n. (n, u.1) in let g : ℕ → List ℕ × ℕ = λ n. (v.0, n) in ap f left ∙ ap g right)

both : (a b : Bool) → (a && b) ≡ true → (a ≡ true) × (b ≡ true)
both true b is = (refl, is)
both false b is = absurd (cc)

lines_compare : Compares same_line
lines_compare = record {
  yes = λ u v is. (let two = both (u.1 == v.1) (bytes_eq u.0 v.0) is in pair_same u v ((bytes_eq-Decides u.0 v.0).0 two.1) (grind (arith, nat_tests, two.0)));
  no = λ u v is same.
      (let lines : (u.1 == v.1) ≡ true = grind (arith, nat_tests, ap (λ m. m.1) same) in
      let texts : bytes_eq u.0 v.0 ≡ true = (bytes_eq-Decides u.0 v.0).1 (ap (λ m. m.0) same) in
      let no : true ≡ false = sym (ap (λ t. t && bytes_eq u.0 v.0) lines ∙ texts) ∙ is in absurd (cc));
}

one_mapped : (paths : List (List ℕ)) (t : Bool) (x r : LineRun)
    → map (path_run paths) (if t then record { start = x.start; end = r.end; path = x.path; line = x.line } ∷ [] else x ∷ r ∷ [])
    ≡ (if t then record { start = x.start; end = r.end; value = path_line paths (x.path, x.line) } ∷ [] else path_run paths x ∷ path_run paths r ∷ [])
one_mapped paths true x r = refl
one_mapped paths false x r = refl

added_mapped : (paths : List (List ℕ)) (x : LineRun) (xs : List LineRun) (r : LineRun) → map (path_run paths) (with_run_after paths x xs r) ≡ added_after same_line (path_run paths x) (map (path_run paths) xs) (path_run paths r)
added_mapped paths x [] r = one_mapped paths (continues paths x r) x r
added_mapped paths x (y ∷ ys) r = ap (λ l. path_run paths x ∷ l) (added_mapped paths y ys r)

with_mapped : (paths : List (List ℕ)) (xs : List LineRun) (r : LineRun) → map (path_run paths) (with_run paths xs r) ≡ added same_line (map (path_run paths) xs) (path_run paths r)
with_mapped paths [] r = refl
with_mapped paths (x ∷ xs) r = added_mapped paths x xs r

get_some : (paths : List (List ℕ)) (k : ℕ) → k < length paths → slice_get paths k ≡ Some (unwrap_or (slice_get paths k) [])
get_some [] k inside = absurd (omega arith)
get_some (p ∷ paths) zero inside = refl
get_some (p ∷ paths) (suc k) inside = get_some paths k (omega arith)

named_some : (paths : List (List ℕ)) (m : ℕ × ℕ) → m.0 < length paths → named_line paths (Some m) ≡ Some (path_line paths m)
named_some paths m inside = ap (λ o. option_map (λ (path : List ℕ). (path, m.1)) o) (get_some paths m.0 inside)

-- One part more, on which the function is constant.
grown_part : (paths : List (List ℕ)) (low from to : ℕ) (f : ℕ → Option (ℕ × ℕ)) (o : Option (ℕ × ℕ)) (runs : List LineRun) → f from ≡ o → IsKnown (length paths) o → Grown low from (λ a. named_line paths (f a)) (map (path_run paths) runs) → low ≤ from → from < to → ((b : ℕ) → from ≤ b → b < to → f b ≡ f from) → Grown low to (λ a. named_line paths (f a)) (map (path_run paths) (with_part paths o from to runs))
grown_part paths low from to f None runs is known g order some constant =
    grown_empty low from to (λ a. named_line paths (f a)) (map (path_run paths) runs) g order some (λ b high below. ap (named_line paths) (constant b high below)) (ap (named_line paths) is)
grown_part paths low from to f (Some m) runs is known g order some constant =
    rw with_mapped
    (grown_some same_line lines_compare low from to (λ a. named_line paths (f a)) (path_line paths m) (map (path_run paths) runs) g order some (λ b high below. ap (named_line paths) (constant b high below)) (ap (named_line paths) is ∙ named_some paths m known))

started_after : (paths : List (List ℕ)) (f : ℕ → Option (ℕ × ℕ)) (x : LineRun) (xs : List LineRun) (r : LineRun) → AreStarted f (x ∷ xs) → f r.start ≡ Some (r.path, r.line) → AreStarted f (with_run_after paths x xs r)
started_after paths f x [] r started one = go (continues paths x r)
  where
    go : (t : Bool) → AreStarted f (if t then record { start = x.start; end = r.end; path = x.path; line = x.line } ∷ [] else x ∷ r ∷ [])
    go true = (started.0, tt)
    go false = (started.0, (one, tt))
started_after paths f x (y ∷ ys) r started one = (started.0, started_after paths f y ys r started.1 one)

started_run : (paths : List (List ℕ)) (f : ℕ → Option (ℕ × ℕ)) (runs : List LineRun) (r : LineRun) → AreStarted f runs → f r.start ≡ Some (r.path, r.line) → AreStarted f (with_run paths runs r)
started_run paths f [] r started one = (one, tt)
started_run paths f (x ∷ xs) r started one = started_after paths f x xs r started one

pub started_part : (paths : List (List ℕ)) (f : ℕ → Option (ℕ × ℕ)) (o : Option (ℕ × ℕ)) (start end : ℕ) (runs : List LineRun) → AreStarted f runs → o ≡ f start → AreStarted f (with_part paths o start end runs)
started_part paths f None start end runs started is = started
started_part paths f (Some m) start end runs started is = started_run paths f runs (record { start = start; end = end; path = m.0; line = m.1 }) started (sym is)

-- There is no stop before the next one.
pub none_between : (low : ℕ) (stops : List ℕ) (a b : ℕ) → RisesFrom low stops → b < low → NoStopBetween a b stops
none_between low [] a b rises below = tt
none_between low (s ∷ stops) a b rises below = (inr (omega (arith, rises.0)), none_between (s + 1) stops a b rises.1 (omega (arith, rises.0)))

-- The line is the same up to the next stop.
steady : (paths : List (List ℕ)) (f : ℕ → Option (ℕ × ℕ)) (start end at : ℕ) (now : Option (ℕ × ℕ)) (rest : List ℕ) (runs : List LineRun) → Walks paths f start end at now rest runs → (low : ℕ) → RisesFrom low rest → (b : ℕ) → at ≤ b → b < low → f b ≡ f at
steady paths f start end at now rest runs w low rises b high below = sym (w.same at b (omega arith) high (none_between low rest at b rises below))

known_after : (paths : List (List ℕ)) (count : ℕ) (x : LineRun) (xs : List LineRun) (r : LineRun) → AreKnown count (x ∷ xs) → r.path < count → AreKnown count (with_run_after paths x xs r)
known_after paths count x [] r known one = go (continues paths x r)
  where
    go : (t : Bool) → AreKnown count (if t then record { start = x.start; end = r.end; path = x.path; line = x.line } ∷ [] else x ∷ r ∷ [])
    go true = (known.0, tt)
    go false = (known.0, (one, tt))
known_after paths count x (y ∷ ys) r known one = (known.0, known_after paths count y ys r known.1 one)

known_run : (paths : List (List ℕ)) (count : ℕ) (runs : List LineRun) (r : LineRun) → AreKnown count runs → r.path < count → AreKnown count (with_run paths runs r)
known_run paths count [] r known one = (one, tt)
known_run paths count (x ∷ xs) r known one = known_after paths count x xs r known one

known_part : (paths : List (List ℕ)) (count : ℕ) (o : Option (ℕ × ℕ)) (start end : ℕ) (runs : List LineRun) → AreKnown count runs → IsKnown count o → AreKnown count (with_part paths o start end runs)
known_part paths count None start end runs known one = known
known_part paths count (Some m) start end runs known one = known_run paths count runs (record { start = start; end = end; path = m.0; line = m.1 }) known one

pub walks_on : (paths : List (List ℕ)) (f : ℕ → Option (ℕ × ℕ)) (start end at stop : ℕ) (now next : Option (ℕ × ℕ)) (stops rest : List ℕ) (runs : List LineRun) → stops ≡ stop ∷ rest → Walks paths f start end at now stops runs → stop < end → next ≡ f stop → IsKnown (length paths) next → Walks paths f start end stop next rest (with_part paths now at stop runs)
walks_on paths f start end at stop now next stops rest runs part walks more is known =
    let P : List ℕ → Type 0 = λ l. Walks paths f start end at now l runs in
    let w = subst P part walks in
    record {
      grown = grown_part paths start at stop f now runs (sym w.is_now) w.known_now w.grown w.order (omega (arith, w.rising.0)) (λ b high low. steady paths f start end at now (stop ∷ rest) runs w stop (omega arith, w.rising.1) b high low);
      starts = started_part paths f now at stop runs w.starts w.is_now;
      is_now = is;
      rising = w.rising.1;
      order = omega (arith, w.order, w.rising.0);
      inside = more;
      same = λ a b high order none. w.same a b (omega (arith, w.rising.0, high)) order (inl high, none);
      known = known_part paths (length paths) now at stop runs w.known w.known_now;
      known_now = known;
    }

-- The last part, if the next stop is not below the end.
abbrev pub Ended : List (List ℕ) → (ℕ → Option (ℕ × ℕ)) → ℕ → ℕ → List LineRun → Type 0
Ended paths f start end runs = IsRuns (between start end (λ a. named_line paths (f a))) (map (path_run paths) runs) × AreStarted f runs

pub walks_end : (paths : List (List ℕ)) (f : ℕ → Option (ℕ × ℕ)) (start end at stop : ℕ) (now : Option (ℕ × ℕ)) (stops rest : List ℕ) (runs : List LineRun) → stops ≡ stop ∷ rest → Walks paths f start end at now stops runs → end ≤ stop → Ended paths f start end (with_part paths now at end runs)
walks_end paths f start end at stop now stops rest runs part walks last =
    let P : List ℕ → Type 0 = λ l. Walks paths f start end at now l runs in
    let w = subst P part walks in (
      (grown_part paths start at end f now runs (sym w.is_now) w.known_now w.grown w.order w.inside (λ b high low. steady paths f start end at now (stop ∷ rest) runs w stop (omega arith, w.rising.1) b high (omega arith))).runs,
      started_part paths f now at end runs w.starts w.is_now,
    )

pub walks_out : (paths : List (List ℕ)) (f : ℕ → Option (ℕ × ℕ)) (start end at : ℕ) (now : Option (ℕ × ℕ)) (rest : List ℕ) (runs : List LineRun) → Walks paths f start end at now rest runs → rest ≡ [] → Ended paths f start end (with_part paths now at end runs)
walks_out paths f start end at now rest runs walks none =
    let P : List ℕ → Type 0 = λ l. Walks paths f start end at now l runs in
    let w = subst P none walks in (
      (grown_part paths start at end f now runs (sym w.is_now) w.known_now w.grown w.order w.inside (λ b high low. steady paths f start end at now [] runs w end tt b high low)).runs,
      started_part paths f now at end runs w.starts w.is_now,
    )

-- Stops at or below an address are not above it.
undropped : (stops : List ℕ) (n start a b : ℕ) → ((k d : ℕ) → k < n → slice_index_or stops k d ≤ start) → start ≤ a → n ≤ length stops → NoStopBetween a b (drop n stops) → NoStopBetween a b stops
undropped stops zero start a b low above few none = none
undropped [] (suc n) start a b low above few none = tt
undropped (stop ∷ stops) (suc n) start a b low above few none =
    (inl (let h : stop ≤ start = low 0 stop (omega arith) in omega arith), undropped stops n start a b (λ k d less. low (suc k) d (omega arith)) above (omega arith) none)

rises_drop : (n low start : ℕ) (stops : List ℕ) → RisesFrom low stops → ((k d : ℕ) → n ≤ k → k < length stops → start < slice_index_or stops k d) → RisesFrom (start + 1) (drop n stops)
rises_drop zero low start [] rises high = tt
rises_drop zero low start (x ∷ xs) rises high = ((let h : start < x = high 0 x (omega arith) (omega arith) in omega arith), rises.1)
rises_drop (suc n) low start [] rises high = tt
rises_drop (suc n) low start (x ∷ xs) rises high = rises_drop n (x + 1) start xs rises.1 (λ k d from within. high (suc k) d (omega arith) (omega arith))

walks_begin : (table : LineMap) (n start end : ℕ) (now : Option (ℕ × ℕ)) → start < end → RisesFrom 0 table.lines.stops → n ≤ length table.lines.stops → Point table.lines.stops start n → now ≡ numbered_line table start → IsKnown (length table.paths) now → Walks table.paths (numbered_line table) start end start now (drop n table.lines.stops) []
walks_begin table n start end now some rising few point is known = record {
  grown = grown_none start (λ a. named_line table.paths (numbered_line table a));
  starts = tt;
  is_now = is;
  rising = rises_drop n 0 start table.lines.stops rising (λ k d from within. (let is : nat_le (slice_index_or table.lines.stops k d) start ≡ false = point.1 k d from within in grind (arith, nat_tests)));
  order = omega arith;
  inside = some;
  same = λ a b high order none. same_between table a b order (undropped table.lines.stops n start a b (λ k d less. (let is : nat_le (slice_index_or table.lines.stops k d) start ≡ true = point.0 k d (omega arith) less in grind (arith, nat_tests))) high few none);
  known = tt;
  known_now = known;
}

pub walks_start : (table : LineMap) (stops : List ℕ) (n start end : ℕ) (now : Option (ℕ × ℕ)) → stops ≡ table.lines.stops → start < end → RisesFrom 0 table.lines.stops → n ≤ length stops → Point stops start n → now ≡ numbered_line table start → IsKnown (length table.paths) now → Walks table.paths (numbered_line table) start end start now (drop n stops) []
walks_start table stops n start end now same some rising few point is known =
    let P : List ℕ → Type 0 = λ l. n ≤ length l → Point l start n → Walks table.paths (numbered_line table) start end start now (drop n l) [] in
    subst P (sym same) (λ inside at. walks_begin table n start end now some rising inside at is known) few point

pub drop_next : (xs : List ℕ) (n d : ℕ) → n < length xs → drop n xs ≡ slice_index_or xs n d ∷ drop (n + 1) xs
drop_next xs n d inside = drop_more xs n d inside

-- The last run is made longer if the next one continues it.
pub with_longer : (paths : List (List ℕ)) (runs : List LineRun) (n : ℕ) (x r : LineRun) → n + 1 ≡ length runs → x ≡ slice_index_or runs n x → continues paths x r ≡ true → slice_set runs n (record { start = x.start; end = r.end; path = x.path; line = x.line }) ≡ with_run paths runs r
with_longer paths [] n x r few last on = absurd (omega arith)
with_longer paths (y ∷ []) zero x r few last on =
    sym (ap (λ t. if t then record { start = y.start; end = r.end; path = y.path; line = y.line } ∷ [] else y ∷ r ∷ []) (ap (λ z. continues paths z r) (sym last) ∙ on)
    ∙ ap (λ (z : LineRun). record { start = z.start; end = r.end; path = z.path; line = z.line } ∷ []) (sym last))
with_longer paths (y ∷ []) (suc n) x r few last on = absurd (omega arith)
with_longer paths (y ∷ z ∷ runs) zero x r few last on = absurd (omega arith)
with_longer paths (y ∷ z ∷ runs) (suc n) x r few last on = ap (λ l. y ∷ l) (with_longer paths (z ∷ runs) n x r (omega arith) last on)

-- A run is added after the last one if it does not continue it.
pub with_more : (paths : List (List ℕ)) (runs : List LineRun) (n : ℕ) (x r : LineRun) → n + 1 ≡ length runs → x ≡ slice_index_or runs n x → continues paths x r ≡ false → runs ++ r ∷ [] ≡ with_run paths runs r
with_more paths [] n x r few last off = absurd (omega arith)
with_more paths (y ∷ []) zero x r few last off =
    sym (ap (λ t. if t then record { start = y.start; end = r.end; path = y.path; line = y.line } ∷ [] else y ∷ r ∷ []) (ap (λ z. continues paths z r) (sym last) ∙ off))
with_more paths (y ∷ []) (suc n) x r few last off = absurd (omega arith)
with_more paths (y ∷ z ∷ runs) zero x r few last off = absurd (omega arith)
with_more paths (y ∷ z ∷ runs) (suc n) x r few last off = ap (λ l. y ∷ l) (with_more paths (z ∷ runs) n x r (omega arith) last off)

pub last_known : (count : ℕ) (runs : List LineRun) (n : ℕ) (x : LineRun) → AreKnown count runs → n < length runs → x ≡ slice_index_or runs n x → x.path < count
last_known count [] n x known inside last = absurd (omega arith)
last_known count (y ∷ runs) zero x known inside last = subst (λ (z : LineRun). z.path < count) (sym last) known.0
last_known count (y ∷ runs) (suc n) x known inside last = last_known count runs n x known.1 (omega arith) last

pub known_by : (count : ℕ) (o : Option (ℕ × ℕ)) → IfSome o (λ line. line.0 < count) → IsKnown count o
known_by count None known = tt
known_by count (Some m) known = known

some_part : (piece : Piece) (runs : List LineRun) (part : UnitRead) (o : Option UnitRead) → Some part ≡ o → Ended part.lines.paths (numbered_line part.lines) piece.start piece.end runs
    → IsRuns (between piece.start piece.end (λ a. line_in a o)) (map (path_run (paths_in o)) runs) × AreStarted (λ a. number_line_in a o) runs
some_part piece runs part o is ended =
    let P : Option UnitRead → Type 0 = λ o. IsRuns (between piece.start piece.end (λ a. line_in a o)) (map (path_run (paths_in o)) runs) × AreStarted (λ a. number_line_in a o) runs in
    subst P is ended

pub lines_some : (units : List UnitRead) (piece : Piece) (runs : List LineRun) (part : UnitRead) → Some part ≡ slice_get units piece.unit → Ended part.lines.paths (numbered_line part.lines) piece.start piece.end runs → AreLineRuns units piece runs
unfolding unit_number_line unit_line unit_paths
lines_some units piece runs part is ended = (let both = some_part piece runs part (slice_get units piece.unit) is ended in record { paths = both.0; starts = both.1 })

no_value : {V : Type 0} (start end : ℕ) (f : ℕ → Option V) → ((a : ℕ) → start ≤ a → a < end → f a ≡ None) → IsRuns (between start end f) []
no_value start end f none = record { apart = tt; values = λ a. grind (arith, nat_tests, none a) }

no_line : (o : Option UnitRead) (a : ℕ) → None ≡ o → line_in a o ≡ None
no_line None a is = refl
no_line (Some part) a is = absurd (cc)

-- The unit does not exist.
pub lines_none : (units : List UnitRead) (piece : Piece) → None ≡ slice_get units piece.unit → AreLineRuns units piece []
unfolding unit_line
lines_none units piece is = record {
  paths = no_value piece.start piece.end (λ a. line_in a (slice_get units piece.unit)) (λ a low high. no_line (slice_get units piece.unit) a is);
  starts = tt;
}

-- The piece has no address.
pub lines_empty : (units : List UnitRead) (piece : Piece) → piece.end ≤ piece.start → AreLineRuns units piece []
lines_empty units piece none = record {
  paths = no_value piece.start piece.end (unit_line units piece.unit) (λ a low high. absurd (omega arith));
  starts = tt;
}

pub rising_same : (stops held : List ℕ) → stops ≡ held → RisesFrom 0 held → RisesFrom 0 stops
rising_same stops held same rising = (let P : List ℕ → Type 0 = λ l. RisesFrom 0 l in subst P (sym same) rising)

-- The line at a stop of the table.
pub line_at_stop : (table : LineMap) (stops : List ℕ) (k : ℕ) (now : Option (ℕ × ℕ)) → stops ≡ table.lines.stops → now ≡ numbered_line table (slice_index_or table.lines.stops k 0) → now ≡ numbered_line table (slice_index_or stops k 0)
line_at_stop table stops k now same is = is ∙ sym (ap (λ l. numbered_line table (slice_index_or l k 0)) same)
