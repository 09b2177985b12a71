-- The written entries are above the base, and no two have an address in common; for
-- `translate_all`.
use Rattle.std.proofs.Common.{◌≡◌, ℕ, ◌+◌, List, [], ◌∷◌, ◌++◌, map, Option, None, Some, refl, ap, sym, ◌∙◌, subst}
use Rattle.sym_edges.specs.declared.reason.Reason.{Reason}
use Rattle.sym_edges.specs.Addresses.{Range}
use Rattle.range_set.specs.Starts.{AllFrom}
use Rattle.frame_entries.specs.declared.description.Body.{Body}
use Rattle.frame_entries.specs.declared.description.Body.TheVariants.{Good, Bad}
use Rattle.frame_entries.specs.declared.description.Entry.{Entry}
use Rattle.frame_entries.specs.FdeFields.{FdeFields}
use Rattle.sym_records.specs.declared.line.SymLine.{SymLine}
use Rattle.rule_postfix.specs.Written.{Decided, range_of, reason_behind, body_reason, reason_of, with_fields, with_decision, with_entry, with_entries, decided_behind, decided_of, decided, written, written_lines}
use Rattle.sym_meaning.specs.Inits.{inits_at, AreNested}
use Rattle.rule_postfix.specs.Covering.{entries_at, AreDisjoint}
use Rattle.rule_postfix.specs.internal.Deciding.{none_decided}
use Rattle.rule_postfix.proofs.DecidedLemmas.{IsFree, is_free, enclosed_above}
use Rattle.rule_postfix.proofs.CoveringLemmas.{AreAbove, above_more, above_none, disjoint_more, written_inits}
use Rattle.rule_postfix.proofs.NestingLemmas.{written_nested}

pub record Kept (base : ℕ) (d : Decided) : Type 0 where
  pub above : AreAbove base d.written
  pub apart : AreDisjoint d.written

good_keeps : (base : ℕ) (code : List Range) (entry : Entry) (e : FdeFields) (o : Option Reason) (d : Decided) → AllFrom base code → entry.body ≡ Good e → reason_behind code d.written e ≡ o → Kept base d → Kept base (with_decision entry o d)
unfolding reason_behind
good_keeps base code entry e None d from body is kept =
    let free : IsFree code (map range_of d.written) e = is_free code (map range_of d.written) e is in
    let P : Body → Type 0 = λ b. Kept base (with_fields b d) in
    subst P (sym body) (record {
      above = above_more base d.written e kept.above (enclosed_above base e.start (e.start + e.size) code from free.inside);
      apart = disjoint_more d.written e kept.apart free.apart;
    })
good_keeps base code entry e (Some why) d from body is kept = record { above = kept.above; apart = kept.apart }

body_keeps : (base : ℕ) (code : List Range) (entry : Entry) (b : Body) (d : Decided) → AllFrom base code → entry.body ≡ b → Kept base d → Kept base (with_decision entry (body_reason code d.written b) d)
body_keeps base code entry (Good e) d from body kept = good_keeps base code entry e (reason_behind code d.written e) d from body refl kept
body_keeps base code entry (Bad why) d from body kept = record { above = kept.above; apart = kept.apart }

entries_keep : (base : ℕ) (code : List Range) (entries : List Entry) (d : Decided) → AllFrom base code → Kept base d → Kept base (with_entries code entries d)
unfolding with_entries with_entry reason_of
entries_keep base code [] d from kept = kept
entries_keep base code (x ∷ entries) d from kept = entries_keep base code entries (with_entry code x d) from (body_keeps base code x x.body d from refl kept)

all_kept : (base : ℕ) (code : List Range) (first second : List Entry) → AllFrom base code → Kept base (decided code first second)
unfolding decided decided_of decided_behind
all_kept base code first second from = entries_keep base code (first ++ second) none_decided from (record { above = above_none base; apart = tt })

-- The written entries start at or above the base.
pub written_above : (base : ℕ) (code : List Range) (first second : List Entry) → AllFrom base code → AreAbove base (written code first second)
unfolding written
written_above base code first second from = (all_kept base code first second from).above

-- No two written entries have an address in common.
pub written_apart : (base : ℕ) (code : List Range) (first second : List Entry) → AllFrom base code → AreDisjoint (written code first second)
unfolding written
written_apart base code first second from = (all_kept base code first second from).apart

-- An address is covered by as many INITs as there are written entries with it.
pub written_cover : (base : ℕ) (code : List Range) (first second : List Entry) (lines : List SymLine) → AllFrom base code → lines ≡ written_lines base (written code first second) → (x : ℕ) → inits_at lines x ≡ entries_at (written code first second) (x + base)
unfolding written
written_cover base code first second lines from these x = ap (λ ls. inits_at ls x) these ∙ written_inits base x (decided code first second).written (all_kept base code first second from).above

-- Changes are inside the INIT of their range.
pub written_changes : (base : ℕ) (code : List Range) (first second : List Entry) (lines : List SymLine) → AllFrom base code → lines ≡ written_lines base (written code first second) → AreNested 0 0 lines
unfolding written
written_changes base code first second lines from these =
    let P : List SymLine → Type 0 = λ ls. AreNested 0 0 ls in
    subst P (sym these) ((written_nested base (decided code first second).written (all_kept base code first second from).above).at 0 0)
