-- The turns of the loop over frames, for `read_frames`.
use Rattle.std.proofs.Common.{◌≡◌, ℕ, ◌+◌, ◌<◌, ◌≤◌, Bool, true, false, List, [], ◌∷◌, ◌++◌, length, map, reverse, Option, Some, None, IfSome, MatchOption, refl, sym, ◌∙◌, ap, arith}
use Rattle.std.specs.Borrow.{Bor}
use Rattle.std.specs.Option.{option_map, option_and_then, option_copied, option_to_list}
use Rattle.std.proofs.lemmas.List.{append-nil}
use Rattle.rust_names.specs.declared.grammar.Frame.{Frame}
use Rattle.rust_names.specs.declared.turns.Stop.{Stop}
use Rattle.rust_names.specs.V0Names.{State, all, read_within, read_level, most_width, whole, outermost, text_within}
use Rattle.rust_names.specs.internal.Passing.{IsEnd, Stopped, Turned, is_hidden}
use Rattle.rust_names.specs.internal.Running.{inside, at, shown_after, expand, Expanded, SameRun, is_made, read_frame, run, weight}
use Rattle.rust_names.proofs.FrameLemmas.{after_frames, step, run_one, run_none, run_parts, top, on_top, light, lighter}
use Rattle.rust_names.proofs.EndLemmas.{expanded_end}

made_after : (name : List ℕ) (below new : List Frame) (s : State) (after : List ℕ) (o : Option (List Frame × List ℕ)) → Expanded below new o (Some after) → after_frames name (reverse below) s o ≡ run name (reverse new) (record s { rest = after })
made_after name below new s after None is = absurd is
made_after name below new s after (Some x) is =
    ap (λ fs. run name fs (record s { rest = x.1 })) (sym (on_top x.0 below new is.0)) ∙ ap (λ r. run name (reverse new) (record s { rest = r })) is.2

none_after : (name : List ℕ) (below new : List Frame) (s : State) (o : Option (List Frame × List ℕ)) → Expanded below new o None → after_frames name (reverse below) s o ≡ None
none_after name below new s None is = refl
none_after name below new s (Some x) is = absurd is

pub made_same : (name : List ℕ) (f : Frame) (below new : List Frame) (rest text after : List ℕ) (opened : Bool) → is_made f.part ≡ true → Expanded below new (expand (length name) f opened rest) (Some after) → run name (reverse (below ++ f ∷ [])) (at rest text opened) ≡ run name (reverse new) (at after text opened)
made_same name f below new rest text after opened made is =
    ap (λ fs. run name fs (at rest text opened)) (top f below (below ++ f ∷ []) refl) ∙ step name f (reverse below) (at rest text opened) made ∙ made_after name below new (at rest text opened) after (expand (length name) f opened rest) is

lighter_of : (size : ℕ) (f : Frame) (below new : List Frame) (opened : Bool) (bytes after : List ℕ) (o : Option (List Frame × List ℕ)) → is_made f.part ≡ true → expand size f opened bytes ≡ o → Expanded below new o (Some after) → weight size new < weight size (below ++ f ∷ [])
lighter_of size f below new opened bytes after None made is expanded = absurd expanded
lighter_of size f below new opened bytes after (Some x) made is expanded = lighter size f below new x.0 opened bytes x.1 made is expanded.1 expanded.0

pub made_lighter : (size : ℕ) (f : Frame) (below new : List Frame) (opened : Bool) (bytes after : List ℕ) → is_made f.part ≡ true → Expanded below new (expand size f opened bytes) (Some after) → weight size new < weight size (below ++ f ∷ [])
made_lighter size f below new opened bytes after made is = lighter_of size f below new opened bytes after (expand size f opened bytes) made refl is

-- A turn with a frame that is made of others, and one with any other frame.

pub made_turn : (name : List ℕ) (f : Frame) (below new : List Frame) (rest text : List ℕ) (opened : Bool) (o : Option (Bor (List ℕ))) → is_made f.part ≡ true → IsEnd name rest → Expanded below new (expand (length name) f opened rest) (option_copied o) → Turned name (below ++ f ∷ []) (at rest text opened) new text opened o
made_turn name f below new rest text opened None made ends is = record {
  same =
      ap (λ fs. run name fs (at rest text opened)) (top f below (below ++ f ∷ []) refl) ∙ step name f (reverse below) (at rest text opened) made
      ∙ none_after name below new (at rest text opened) (expand (length name) f opened rest) is;
  lighter = tt;
  ends = tt;
}
made_turn name f below new rest text opened (Some a) made ends is = record {
  same = made_same name f below new rest text a.now opened made is;
  lighter = made_lighter (length name) f below new opened rest a.now made is;
  ends = expanded_end (length name) f opened below new name rest a.now ends is;
}

plain_run : (name : List ℕ) (f : Frame) (below : List Frame) (s : State) (o : Option State) → read_frame name f s ≡ o → run name (reverse (below ++ f ∷ [])) s ≡ option_and_then (run name (reverse below)) o
plain_run name f below s o is = ap (λ fs. run name fs s) (top f below (below ++ f ∷ []) refl) ∙ run_one name f (reverse below) s ∙ ap (option_and_then (run name (reverse below))) is

pub plain_turn : (name : List ℕ) (f : Frame) (below : List Frame) (s : State) (text : List ℕ) (opened : Bool) (o : Option (Bor (List ℕ))) → read_frame name f s ≡ option_map (λ (a : Bor (List ℕ)). at a.now text opened) o → IfSome o (λ a. IsEnd name a.now) → Turned name (below ++ f ∷ []) s below text opened o
plain_turn name f below s text opened None is ends = record { same = plain_run name f below s None is; lighter = tt; ends = tt }
plain_turn name f below s text opened (Some a) is ends = record { same = plain_run name f below s (Some (at a.now text opened)) is; lighter = light (length name) f below; ends = ends }

-- The same turn from other frames that read the same.
pub turn_from : (name : List ℕ) (old mid new : List Frame) (before rest text more : List ℕ) (opened leaves : Bool) (o : Option (Bor (List ℕ))) → SameRun name old before mid rest → weight (length name) mid ≤ weight (length name) old → Turned name mid (at rest text opened) new more leaves o → Turned name old (at before text opened) new more leaves o
turn_from name old mid new before rest text more opened leaves None same fits turned = record { same = same text opened ∙ turned.same; lighter = tt; ends = tt }
turn_from name old mid new before rest text more opened leaves (Some a) same fits turned = record { same = same text opened ∙ turned.same; lighter = omega (arith, turned.lighter, fits); ends = turned.ends }

-- Several turns, up to a stop.

-- If the loop is not to stop at the path of an impl, it does not.
none_by : (below : List Frame) (hidden : Option Frame) → MatchOption hidden (below ≡ []) (λ f. (false ≡ true) × (is_hidden f.part ≡ true)) → hidden ≡ None
none_by below None is = refl
none_by below (Some f) is = let e : false ≡ true = is.0 in cc

pub none_hidden : (name : List ℕ) (old new : List Frame) (s : State) (text : List ℕ) (opened : Bool) (stop : Stop) → Stopped name old s false new text opened stop → stop.hidden ≡ None
none_hidden name old new s text opened stop is = none_by new stop.hidden is.hidden

all_by : (stops : Bool) (below : List Frame) (hidden : Option Frame) → MatchOption hidden (below ≡ []) (λ f. (stops ≡ true) × (is_hidden f.part ≡ true)) → hidden ≡ None → below ++ option_to_list hidden ≡ []
all_by stops below None is none = ap (λ fs. fs ++ []) is
all_by stops below (Some f) is none = cc

-- If the loop ends at the end, all is read.
pub ended : (name : List ℕ) (old new : List Frame) (s : State) (stops : Bool) (text : List ℕ) (opened : Bool) (stop : Stop) → Stopped name old s stops new text opened stop → stop.hidden ≡ None → run name (reverse old) s ≡ Some (at stop.rest.now text opened)
ended name old new s stops text opened stop is none =
    is.same ∙ ap (λ fs. run name (reverse fs) (at stop.rest.now text opened)) (all_by stops new stop.hidden is.hidden none) ∙ run_none name (at stop.rest.now text opened)

-- A single frame.

all_of : (name : List ℕ) (o : Option State) → option_and_then (run name []) o ≡ o
all_of name None = refl
all_of name (Some s) = run_none name s

pub alone : (name : List ℕ) (f : Frame) (cleared pushed new : List Frame) (s : State) (text : List ℕ) (opened : Bool) (stop : Stop) → cleared ≡ [] → pushed ≡ cleared ++ f ∷ [] → Stopped name pushed s false new text opened stop → read_frame name f s ≡ Some (at stop.rest.now text opened)
alone name f cleared pushed new s text opened stop none pushes is =
    sym (ap (λ fs. run name (reverse fs) s) (pushes ∙ ap (λ fs. fs ++ f ∷ []) none) ∙ plain_run name f [] s (read_frame name f s) refl ∙ all_of name (read_frame name f s)) ∙ ended name pushed new s false text opened stop is (none_hidden name pushed new s text opened stop is)

-- If the loop stops at the path of an impl, the rest is read after the path.
pub passed : (name : List ℕ) (old new : List Frame) (s : State) (stops : Bool) (text : List ℕ) (opened : Bool) (stop : Stop) (f : Frame) (o : Option State) → Stopped name old s stops new text opened stop → stop.hidden ≡ Some f → read_frame name f (at stop.rest.now text opened) ≡ o → run name (reverse old) s ≡ option_and_then (run name (reverse new)) o
passed name old new s stops text opened stop f o is some reads =
    is.same ∙ ap (λ h. run name (reverse (new ++ option_to_list h)) (at stop.rest.now text opened)) some ∙ plain_run name f new (at stop.rest.now text opened) o reads

pub passed_lighter : (name : List ℕ) (old new : List Frame) (s : State) (stops : Bool) (text : List ℕ) (opened : Bool) (stop : Stop) (f : Frame) → Stopped name old s stops new text opened stop → stop.hidden ≡ Some f → weight (length name) new < weight (length name) old
passed_lighter name old new s stops text opened stop f is some =
    omega (arith, is.lighter, light (length name) f new, ap (λ h. weight (length name) (new ++ option_to_list h)) some)

run_whole : (name : List ℕ) (levels : ℕ) (o : Option State) → option_and_then (run name []) o ≡ o
unfolding run
run_whole name levels None = refl
run_whole name levels (Some s) = refl

no_more : (fs : List Frame) → fs ++ [] ≡ fs
no_more fs = append-nil fs

pub whole_run : (name : List ℕ) (levels : ℕ) (frames : List Frame) → reverse frames ≡ map (inside outermost levels (length name + 8)) whole → shown_after (run name (reverse frames) (at name [] false)) ≡ text_within levels name
unfolding text_within
whole_run name levels frames is =
    ap shown_after (ap (λ fs. run name fs (at name [] false)) (is ∙ sym (no_more (map (inside outermost levels (length name + 8)) whole))) ∙ run_parts name outermost levels (length name + 8) whole [] (at name [] false)
    ∙ run_whole name levels (all (read_within (read_level name levels) name (most_width name) outermost) whole (at name [] false)))
