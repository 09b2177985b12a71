-- The paths that records name, as they are gathered.
use Rattle.std.proofs.Common.{◌≡◌, ℕ, zero, suc, ◌<◌, ◌≤◌, Bool, true, false, ◌||◌, ◌&&◌, nat_le, nat_lt, cond, length, map, List, [], ◌∷◌, ◌++◌, Option, None, Some, arith, refl, sym, ap, subst, ◌∙◌, take, get_or, ◌+◌, Bor, append_assoc}
use Rattle.std.specs.List.{slice_get, list_any}
use Rattle.std.specs.Option.{option_map}
use Rattle.std.specs.Str.{bytes_eq}
use Rattle.std.proofs.lemmas.Option.{slice_get_within, slice_get-get_or}
use Rattle.std.proofs.lemmas.List.{take_all, map-append}
use Rattle.std.proofs.lemmas.List.Folds.{list_any-append}
use Rattle.step_maps.specs.Runs.{AreMaximal, between}
use Rattle.step_maps.proofs.MaximalLemmas.{maximal}
use Rattle.line_program.specs.LineMaps.{named_line}
use Rattle.debug_units.specs.declared.unit_read.UnitRead.{UnitRead}
use Rattle.debug_units.specs.Owners.{line_in}
use Rattle.func_flatten.specs.declared.piece.Piece.{Piece}
use Rattle.func_flatten.specs.declared.line_run.LineRun.{LineRun}
use Rattle.func_flatten.specs.LineRuns.{number_line_in, paths_in, path_run, path_line, unit_number_line, unit_line, unit_paths, AreStarted, AreLineRuns}
use Rattle.inline_chain.specs.InlineRuns.{InlineParts}
use Rattle.func_records.specs.declared.found.FoundShare.{FoundShare}
use Rattle.func_records.specs.declared.path_list.PathRef.{PathRef}
use Rattle.func_records.specs.FuncRecords.{Part, names_path}
use Rattle.func_records.specs.internal.Gathering.{bytes_of, path_at, has_path, ArePathed, any_run, AddsPiece, Gathered, any_call}
use Rattle.func_records.specs.internal.Shares.{all_paths}
use Rattle.func_records.proofs.PartLemmas.{lined_push, pieces_push, copies_push, known_push}
use Rattle.func_records.proofs.ListLemmas.{or_assoc, or_false, or_left, or_right, take_more, take_next, flat_next}

-- A path that is already there.
pub path_known : (refs : List PathRef) (k : ℕ) (at : PathRef) (units : List UnitRead) (path : List ℕ) → slice_get refs k ≡ Some at → has_path units refs path ≡ (has_path units refs path || bytes_eq path (path_at units at))
path_known refs k at units path stands = absorbed (has_path units refs path) (bytes_eq path (path_at units at)) (has_at refs k stands)
  where
    absorbed : (b c : Bool) → (c ≡ true → b ≡ true) → b ≡ (b || c)
    absorbed true c is = refl
    absorbed false true is = is refl
    absorbed false false is = refl

    has_at : (rs : List PathRef) (j : ℕ) → slice_get rs j ≡ Some at → bytes_eq path (path_at units at) ≡ true → has_path units rs path ≡ true
    has_at [] j is same = absurd (cc)
    has_at (r ∷ rs) zero is same =
        let alike : r ≡ at = cc in
        or_left (bytes_eq path (path_at units r)) (has_path units rs path) (ap (λ (q : PathRef). bytes_eq path (path_at units q)) alike ∙ same)
    has_at (r ∷ rs) (suc j) is same = or_right (bytes_eq path (path_at units r)) (has_path units rs path) (has_at rs j is same)

-- One path more.
pub path_added : (old new : List PathRef) (at : PathRef) (units : List UnitRead) (path : List ℕ) → new ≡ old ++ at ∷ [] → has_path units new path ≡ (has_path units old path || bytes_eq path (path_at units at))
path_added old new at units path added =
    ap (λ rs. has_path units rs path) added
    ∙ list_any-append (λ (r : PathRef). bytes_eq path (path_at units r)) old (at ∷ [])
    ∙ ap (λ b. has_path units old path || b) (or_false (bytes_eq path (path_at units at)))

-- The texts of paths.
pub text_next : (units : List UnitRead) (refs : List PathRef) (n : ℕ) (d : PathRef) (made more : List (List ℕ)) → n < length refs → more ≡ made ++ path_at units (get_or refs n d) ∷ [] → made ≡ map (path_at units) (take n refs) → more ≡ map (path_at units) (take (n + 1) refs)
text_next units refs n d made more below pushed so =
    pushed ∙ ap (λ l. l ++ path_at units (get_or refs n d) ∷ []) so
    ∙ sym (ap (map (path_at units)) (take_next refs n d below) ∙ map-append (path_at units) (take n refs) (get_or refs n d ∷ []))

pub slice_next : (lists : List (List ℕ)) (n : ℕ) (d : List ℕ) (slices more : List (Bor (List ℕ))) (t : Bor (List ℕ)) → n < length lists → t.now ≡ get_or lists n d → more ≡ slices ++ t ∷ [] → bytes_of slices ≡ take n lists → bytes_of more ≡ take (n + 1) lists
slice_next lists n d slices more t below is pushed so =
    ap bytes_of pushed ∙ map-append (λ (u : Bor (List ℕ)). u.now) slices (t ∷ []) ∙ ap (λ l. l ++ t.now ∷ []) so ∙ ap (λ u. take n lists ++ u ∷ []) is ∙ sym (take_next lists n d below)

-- Some paths more, one after the other.
pub path_next : (units : List UnitRead) (refs : List PathRef) (n : ℕ) (d : PathRef) (old : Bool) (mid new : Bool) (path : List ℕ) → n < length refs → new ≡ (mid || bytes_eq path (path_at units (get_or refs n d))) → mid ≡ (old || has_path units (take n refs) path) → new ≡ (old || has_path units (take (n + 1) refs) path)
path_next units refs n d old mid new path below is so =
    is ∙ ap (λ b. b || bytes_eq path (path_at units (get_or refs n d))) so
    ∙ or_assoc old (has_path units (take n refs) path) (bytes_eq path (path_at units (get_or refs n d)))
    ∙ ap (λ b. old || b) (sym (ap (λ rs. has_path units rs path) (take_next refs n d below) ∙ path_added (take n refs) (take n refs ++ get_or refs n d ∷ []) (get_or refs n d) units path refl))

pub path_start : (units : List UnitRead) (refs : List PathRef) (old : Bool) (path : List ℕ) → old ≡ (old || has_path units (take 0 refs) path)
path_start units refs old path = sym (or_false old)

pub path_end : (units : List UnitRead) (refs : List PathRef) (n : ℕ) (old new : Bool) (path : List ℕ) → length refs ≤ n → new ≡ (old || has_path units (take n refs) path) → new ≡ (old || has_path units refs path)
path_end units refs n old new path all so = so ∙ ap (λ rs. old || has_path units rs path) (take_all n refs all)

pub share_next : (units : List UnitRead) (shares : List FoundShare) (k : ℕ) (d : FoundShare) (mid new : Bool) (path : List ℕ) → k < length shares → new ≡ (mid || has_path units (get_or shares k d).paths.items path) → mid ≡ has_path units (all_paths (take k shares)) path → new ≡ has_path units (all_paths (take (k + 1) shares)) path
share_next units shares k d mid new path below is so =
    is ∙ ap (λ b. b || has_path units (get_or shares k d).paths.items path) so
    ∙ sym (ap (λ rs. has_path units rs path) (flat_next (λ (f : FoundShare). f.paths.items) shares k d below) ∙ list_any-append (λ (r : PathRef). bytes_eq path (path_at units r)) (all_paths (take k shares)) (get_or shares k d).paths.items)

-- The paths of one piece more.
gathered_one : (units : List UnitRead) (pieces : List Piece) (held : List (List InlineParts)) (piece : Piece) (copies : List InlineParts) (old new : List PathRef) → Gathered units pieces held (has_path units old) → AddsPiece units piece copies old new → Gathered units (pieces ++ piece ∷ []) (held ++ copies ∷ []) (has_path units new)
gathered_one units pieces held piece copies old new so adds =
    let part : Part = record { piece = piece; copies = copies; lines = adds.lines } in
    record {
      parts = so.parts ++ part ∷ [];
      pieces_are = pieces_push so.parts part ∙ ap (λ ps. ps ++ piece ∷ []) so.pieces_are;
      copies_are = copies_push so.parts part ∙ ap (λ cs. cs ++ copies ∷ []) so.copies_are;
      lines_are = lined_push units so.parts part so.lines_are adds.runs;
      known = known_push units so.parts part so.known adds.known;
      same = λ path. adds.same path ∙ or_assoc (has_path units old path) (any_run units piece.unit adds.lines path) (any_call units piece.unit copies path)
          ∙ ap (λ b. b || (any_run units piece.unit adds.lines path || any_call units piece.unit copies path)) (so.same path)
          ∙ sym (list_any-append (names_path units path) so.parts (part ∷ [])
          ∙ ap (λ b. list_any (names_path units path) so.parts || b) (or_false (names_path units path part)));
    }

pub gathered_more : (units : List UnitRead) (pieces : List Piece) (held : List (List InlineParts)) (n : ℕ) (piece : Piece) (copies : List InlineParts) (old new : List PathRef) → slice_get pieces n ≡ Some piece → slice_get held n ≡ Some copies → Gathered units (take n pieces) (take n held) (has_path units old) → AddsPiece units piece copies old new → Gathered units (take (n + 1) pieces) (take (n + 1) held) (has_path units new)
gathered_more units pieces held n piece copies old new piece_is copies_are so adds =
    rw (take_more pieces n piece piece_is) (rw (take_more held n copies copies_are) (gathered_one units (take n pieces) (take n held) piece copies old new so adds))

pub gathered_next : (units : List UnitRead) (pieces : List Piece) (held : List (List InlineParts)) (n : ℕ) (d : Piece) (e copies : List InlineParts) (old new : List PathRef) → n < length pieces → length held ≡ length pieces → copies ≡ get_or held n e → Gathered units (take n pieces) (take n held) (has_path units old) → AddsPiece units (get_or pieces n d) copies old new → Gathered units (take (n + 1) pieces) (take (n + 1) held) (has_path units new)
gathered_next units pieces held n d e copies old new below count is so adds =
    gathered_more units pieces held n (get_or pieces n d) copies old new (slice_get-get_or pieces n d below) (slice_get-get_or held n e (omega (arith, below, count)) ∙ ap Some (sym is)) so adds

pub gathered_none : (units : List UnitRead) (refs : List PathRef) → refs ≡ [] → Gathered units [] [] (has_path units refs)
gathered_none units refs none = record { parts = []; pieces_are = refl; copies_are = refl; lines_are = tt; known = tt; same = λ path. ap (λ rs. has_path units rs path) none }

pub gathered_all : (units : List UnitRead) (pieces : List Piece) (held : List (List InlineParts)) (n : ℕ) (refs : List PathRef) → n ≡ length pieces → length held ≡ length pieces → Gathered units (take n pieces) (take n held) (has_path units refs) → Gathered units pieces held (has_path units refs)
gathered_all units pieces held n refs all count so =
    let whole : take n pieces ≡ pieces = take_all n pieces (omega (arith, all)) in
    let every : take n held ≡ held = take_all n held (omega (arith, all, count)) in
    subst (λ (ps : List Piece). Gathered units ps held (has_path units refs)) whole (subst (λ (hs : List (List InlineParts)). Gathered units (take n pieces) hs (has_path units refs)) every so)

-- Each run of a piece has a path of the table: at its start there is a line with that path.
named_some : (paths : List (List ℕ)) (k line : ℕ) (m : List ℕ × ℕ) → named_line paths (Some (k, line)) ≡ Some m → k < length paths
named_some paths k line m is = go (slice_get paths k) refl is
  where
    go : (o : Option (List ℕ)) → slice_get paths k ≡ o → option_map (λ path. (path, line)) o ≡ Some m → k < length paths
    go None there same = absurd (cc)
    go (Some path) there same = slice_get_within paths k path there

unit_some : (units : List UnitRead) (unit a k line : ℕ) (m : List ℕ × ℕ) → unit_number_line units unit a ≡ Some (k, line) → unit_line units unit a ≡ Some m → k < length (unit_paths units unit)
unfolding unit_number_line unit_line unit_paths
unit_some units unit a k line m number named = go (slice_get units unit) number named
  where
    go : (u : Option UnitRead) → number_line_in a u ≡ Some (k, line) → line_in a u ≡ Some m → k < length (paths_in u)
    go None number named = absurd (cc)
    go (Some part) number named = named_some part.lines.paths k line m (sym (ap (named_line part.lines.paths) number) ∙ named)

between_some : {V : Type 0} (low high a : ℕ) (f : ℕ → Option V) (v : V) → between low high f a ≡ Some v → f a ≡ Some v
between_some low high a f v is = go (nat_le low a && nat_lt a high) is
  where
    go : (b : Bool) → cond b (f a) None ≡ Some v → f a ≡ Some v
    go true same = same
    go false same = absurd (cc)

pathed_by : (units : List UnitRead) (piece : Piece) (runs : List LineRun) → AreStarted (unit_number_line units piece.unit) runs → AreMaximal (between piece.start piece.end (unit_line units piece.unit)) (map (path_run (unit_paths units piece.unit)) runs) → ArePathed units piece.unit runs
pathed_by units piece [] starts paths = tt
pathed_by units piece (r ∷ runs) starts paths =
    let named = between_some piece.start piece.end r.start (unit_line units piece.unit) (path_line (unit_paths units piece.unit) (r.path, r.line)) (paths.0.constant r.start (omega arith) paths.0.some) in
    (unit_some units piece.unit r.start r.path r.line (path_line (unit_paths units piece.unit) (r.path, r.line)) starts.0 named, pathed_by units piece runs starts.1 paths.1)

pub all_pathed : (units : List UnitRead) (piece : Piece) (runs : List LineRun) → AreLineRuns units piece runs → ArePathed units piece.unit runs
all_pathed units piece runs are = pathed_by units piece runs are.starts (maximal _ (map (path_run (unit_paths units piece.unit)) runs) are.paths)
