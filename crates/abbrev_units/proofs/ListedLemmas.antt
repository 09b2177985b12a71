-- A list that grows keeps the members that it had.
use Rattle.std.proofs.Common.{◌≡◌, ◌≤◌, ◌-◌, ℕ, Bool, true, List, [], ◌∷◌, ◌++◌, length, take, drop, Option, None, Some, is_some, unwrap_or, IfSome, Result, Ok, Err, refl, sym, ap, subst, ◌∙◌, arith}
use Rattle.std.proofs.lemmas.List.{length-append, length-drop, append-nil, append_assoc, take-append-le, drop-append-le, take_all, drop_at}
use Rattle.std.proofs.Math.ListN.{drop_of_length-le}
use Rattle.sym_edges.specs.declared.fault.Stop.{Stop}
use Rattle.sym_edges.specs.declared.fault.Stop.TheVariants.{Fault, NoMemory}
use Rattle.leb_cursor.specs.declared.fault.CursorFault.{CursorFault}
use Rattle.leb_cursor.specs.Ahead.{Ahead}
use Rattle.abbrev_units.specs.declared.take.Take.{Take}
use Rattle.abbrev_units.specs.declared.lists.Lists.{Lists}
use Rattle.abbrev_units.specs.declared.lists.Run.{Run}
use Rattle.abbrev_units.specs.declared.lists.Head.{Head}
use Rattle.abbrev_units.specs.SpecFields.{SpecFields, Abbrev}
use Rattle.abbrev_units.specs.Abbreviations.{used_at}
use Rattle.abbrev_units.specs.internal.Used.{used_abbrev_at}
use Rattle.abbrev_units.specs.KeptTags.{is_kept_tag}
use Rattle.abbrev_units.specs.internal.Takes.{AreTakes}
use Rattle.abbrev_units.specs.internal.Listed.{part, IsInside, abbrev_in, abbrevs_in, IsHeld, AreHeld, Starts, Grown, LeavesAt, ReadsAt}
use Rattle.abbrev_units.proofs.AbbrevLemmas.{abbrevs_begin, abbrevs_stopped}
use Rattle.abbrev_units.proofs.BehindLemmas.{Behind, goes_on, ends}

-- A list is a prefix of the list that it grew to.
starts_by : {A : Type 0} (before after more : List A) → after ≡ before ++ more → Starts before after
starts_by before after more is = is ∙ ap (λ rest. before ++ rest) (sym (ap (drop (length before)) is ∙ drop_at before more (length before) refl))

pub none_added : {A : Type 0} (xs : List A) → drop (length xs) xs ≡ []
none_added xs = drop_of_length-le xs (omega arith)

pub starts_here : {A : Type 0} (xs : List A) → Starts xs xs
starts_here xs = starts_by xs xs [] (sym (append-nil xs))

starts_below : {A : Type 0} (before after : List A) → Starts before after → length before ≤ length after
starts_below before after starts = omega (arith, ap length starts, length-append before (drop (length before) after))

pub starts_more : {A : Type 0} (before after longer more : List A) → Starts before after → longer ≡ after ++ more → Starts before longer
starts_more before after longer more starts is =
    starts_by before longer (drop (length before) after ++ more) (is ∙ ap (λ xs. xs ++ more) starts ∙ append_assoc before (drop (length before) after) more)

pub added_more : {A : Type 0} (before after longer more : List A) → Starts before after → longer ≡ after ++ more → drop (length before) longer ≡ drop (length before) after ++ more
added_more before after longer more starts is = ap (drop (length before)) is ∙ drop-append-le (length before) after more (starts_below before after starts)

-- The members that a run selects do not change.
kept_part : {A : Type 0} (before more : List A) (run : Run) → IsInside run before → part run (before ++ more) ≡ part run before
kept_part before more run inside =
    let from : run.from ≤ length before = omega (arith, inside.0, inside.1) in
    let fits : run.to - run.from ≤ length (drop run.from before) = omega (arith, inside.0, inside.1, length-drop run.from before) in
    ap (take (run.to - run.from)) (drop-append-le run.from before more from) ∙ take-append-le (run.to - run.from) (drop run.from before) more fits

same_part : {A : Type 0} (before after : List A) (run : Run) → Starts before after → IsInside run before → part run before ≡ part run after
same_part before after run starts inside = sym (ap (part run) starts ∙ kept_part before (drop (length before) after) run inside)

still_inside : {A : Type 0} (before after : List A) (run : Run) → Starts before after → IsInside run before → IsInside run after
still_inside before after run starts inside =
    (inside.0, omega (arith, inside.1, ap length starts, length-append before (drop (length before) after)))

-- The members from an index on, as a run.
part_rest : {A : Type 0} (xs : List A) (run : Run) (from : ℕ) → run.from ≡ from → run.to ≡ length xs → drop from xs ≡ part run xs
part_rest xs run from start end =
    sym (ap (take (run.to - run.from)) (ap (λ n. drop n xs) start) ∙ take_all (run.to - run.from) (drop from xs) (omega (arith, start, end, length-drop from xs)))

rest_inside : {A : Type 0} (xs : List A) (run : Run) (from : ℕ) → run.from ≡ from → run.to ≡ length xs → from ≤ length xs → IsInside run xs
rest_inside xs run from start end inside = (omega (arith, start, end, inside), omega (arith, end))

pub abbrev_rest : (specs : List SpecFields) (head : Head) (from : ℕ) → head.specs.from ≡ from → head.specs.to ≡ length specs → abbrev_in specs head ≡ record { code = head.code; tag = head.tag; children = head.children; specs = drop from specs }
abbrev_rest specs head from start end =
    ap (λ (s : List SpecFields). record { code = head.code; tag = head.tag; children = head.children; specs = s }) (sym (part_rest specs head.specs from start end))

made_takes : (made : Option ℕ) (kept has : Bool) (tail : ℕ) (takes : List Take) (specs : List SpecFields) → has ≡ is_some made → tail ≡ unwrap_or made 0 → has ≡ true → IfSome made (λ n. AreTakes kept takes n specs) → AreTakes kept takes tail specs
made_takes (Some n) kept has tail takes specs here same there are = subst (λ (m : ℕ). AreTakes kept takes m specs) (sym same) are
made_takes None kept has tail takes specs here same there are = absurd (grind (arith, here, there))

pub held_rest : (lists : Lists) (head : Head) (from begin : ℕ) (made : Option ℕ) → head.kept ≡ is_kept_tag head.tag → head.specs.from ≡ from → head.specs.to ≡ length lists.specs.items → from ≤ length lists.specs.items → head.takes.from ≡ begin → head.takes.to ≡ length lists.takes.items → begin ≤ length lists.takes.items → head.has_takes ≡ is_some made → head.tail ≡ unwrap_or made 0 → IfSome made (λ tail. AreTakes head.kept (drop begin lists.takes.items) tail (drop from lists.specs.items)) → IsHeld lists head
held_rest lists head from begin made kept start end inside takes_start takes_end takes_inside has tail are = record {
  kept = kept;
  specs = rest_inside lists.specs.items head.specs from start end inside;
  takes = rest_inside lists.takes.items head.takes begin takes_start takes_end takes_inside;
  are = λ there.
      subst (λ (s : List SpecFields). AreTakes head.kept (part head.takes lists.takes.items) head.tail s) (part_rest lists.specs.items head.specs from start end)
      (subst (λ (t : List Take). AreTakes head.kept t head.tail (drop from lists.specs.items)) (part_rest lists.takes.items head.takes begin takes_start takes_end)
      (made_takes made head.kept head.has_takes head.tail (drop begin lists.takes.items) (drop from lists.specs.items) has tail there are));
}

pub grown_by : (before after : Lists) (specs : List SpecFields) → Starts before.specs.items specs → after.specs.items ≡ specs → Starts before.takes.items after.takes.items → Grown before after
grown_by before after specs a same b = record {
  specs = subst (λ s. Starts before.specs.items s) (sym same) a;
  takes = b;
}

same_abbrev : (before after : Lists) (head : Head) → Grown before after → IsHeld before head → abbrev_in before.specs.items head ≡ abbrev_in after.specs.items head
same_abbrev before after head grown held =
    ap (λ (specs : List SpecFields). record { code = head.code; tag = head.tag; children = head.children; specs = specs }) (same_part before.specs.items after.specs.items head.specs grown.specs held.specs)

held_still : (before after : Lists) (head : Head) → Grown before after → IsHeld before head → IsHeld after head
held_still before after head grown held = record {
  kept = held.kept;
  specs = still_inside before.specs.items after.specs.items head.specs grown.specs held.specs;
  takes = still_inside before.takes.items after.takes.items head.takes grown.takes held.takes;
  are = λ there.
      subst (λ (s : List SpecFields). AreTakes head.kept (part head.takes after.takes.items) head.tail s) (same_part before.specs.items after.specs.items head.specs grown.specs held.specs)
      (subst (λ (t : List Take). AreTakes head.kept t head.tail (part head.specs before.specs.items)) (same_part before.takes.items after.takes.items head.takes grown.takes held.takes) (held.are there));
}

pub all_held : (before after : Lists) (heads : List Head) → Grown before after → AreHeld before heads → AreHeld after heads
all_held before after [] grown held = tt
all_held before after (head ∷ heads) grown held = (held_still before after head grown held.0, all_held before after heads grown held.1)

pub held_shrunk : (before after : Lists) (heads same : List Head) → Grown before after → AreHeld before heads → same ≡ heads → AreHeld after same
held_shrunk before after heads same grown held is = subst (AreHeld after) (sym is) (all_held before after heads grown held)

same_abbrevs : (before after : Lists) (heads : List Head) → Grown before after → AreHeld before heads → abbrevs_in before.specs.items heads ≡ abbrevs_in after.specs.items heads
same_abbrevs before after [] grown held = refl
same_abbrevs before after (head ∷ heads) grown held =
    ap (λ (a : Abbrev). a ∷ abbrevs_in before.specs.items heads) (same_abbrev before after head grown held.0)
    ∙ ap (λ (rest : List Abbrev). abbrev_in after.specs.items head ∷ rest) (same_abbrevs before after heads grown held.1)

held_more : (lists : Lists) (heads : List Head) (head : Head) → AreHeld lists heads → IsHeld lists head → AreHeld lists (heads ++ head ∷ [])
held_more lists [] head held one = (one, tt)
held_more lists (first ∷ heads) head held one = (held.0, held_more lists heads head held.1 one)

abbrevs_and : (specs : List SpecFields) (heads : List Head) (head : Head) → abbrevs_in specs (heads ++ head ∷ []) ≡ abbrevs_in specs heads ++ abbrev_in specs head ∷ []
abbrevs_and specs [] head = refl
abbrevs_and specs (first ∷ heads) head = ap (λ (rest : List Abbrev). abbrev_in specs first ∷ rest) (abbrevs_and specs heads head)

-- The abbreviations that were read, followed by those still to be read.
pub record Reads (wide : Bool) (lists : Lists) (heads : List Head) (c : Ahead) (want : Result (List Abbrev × Ahead) CursorFault) : Type 0 where
  pub held : AreHeld lists heads
  pub rest : Behind (used_abbrev_at wide) (abbrevs_in lists.specs.items heads) c want

pub reads_begin : (wide : Bool) (lists : Lists) (heads : List Head) (c : Ahead) → heads ≡ [] → Reads wide lists heads c (used_at wide c)
reads_begin wide lists heads c none = record {
  held = subst (AreHeld lists) (sym none) tt;
  rest = abbrevs_begin wide (abbrevs_in lists.specs.items heads) c (ap (abbrevs_in lists.specs.items) none);
}

pub reads_more : (wide : Bool) (lists more : Lists) (heads longer : List Head) (head : Head) (c d : Ahead) (want : Result (List Abbrev × Ahead) CursorFault) → Reads wide lists heads c want → ReadsAt (Ok (Some head)) more d (used_abbrev_at wide c) → Grown lists more → longer ≡ heads ++ head ∷ [] → Reads wide more longer d want
reads_more wide lists more heads longer head c d want so_far is grown added = record {
  held = subst (AreHeld more) (sym added) (held_more more heads head (all_held lists more heads grown so_far.held) is.0);
  rest = goes_on (used_abbrev_at wide) (abbrevs_in lists.specs.items heads) (abbrevs_in more.specs.items longer) (abbrev_in more.specs.items head) c d want so_far.rest (sym is.1)
      (ap (abbrevs_in more.specs.items) added ∙ abbrevs_and more.specs.items heads head ∙ ap (λ (before : List Abbrev). before ++ abbrev_in more.specs.items head ∷ []) (sym (same_abbrevs lists more heads grown so_far.held)));
}

pub reads_held : (wide : Bool) (lists more : Lists) (heads : List Head) (c : Ahead) (want : Result (List Abbrev × Ahead) CursorFault) → Reads wide lists heads c want → Grown lists more → AreHeld more heads
reads_held wide lists more heads c want so_far grown = all_held lists more heads grown so_far.held

pub reads_end : (wide : Bool) (lists more : Lists) (heads : List Head) (c d : Ahead) (want : Result (List Abbrev × Ahead) CursorFault) → Reads wide lists heads c want → ReadsAt (Ok None) more d (used_abbrev_at wide c) → Grown lists more → want ≡ Ok (abbrevs_in more.specs.items heads, d)
reads_end wide lists more heads c d want so_far is grown =
    ends (used_abbrev_at wide) (abbrevs_in lists.specs.items heads) c d None want so_far.rest (sym is) refl ∙ ap (λ (found : List Abbrev). Ok (found, d)) (same_abbrevs lists more heads grown so_far.held)

pub reads_stopped : (wide : Bool) (lists more : Lists) (heads : List Head) (c d e : Ahead) (found : List Abbrev) (stop : Stop CursorFault) (want : Result (List Abbrev × Ahead) CursorFault) → Reads wide lists heads c want → ReadsAt (Err stop) more d (used_abbrev_at wide c) → LeavesAt {U = Prim.Unit {0}} (Err stop) found e want
reads_stopped wide lists more heads c d e found (Fault fault) want so_far is = abbrevs_stopped wide (abbrevs_in lists.specs.items heads) c d e (Fault fault) want so_far.rest is
reads_stopped wide lists more heads c d e found NoMemory want so_far is = tt
