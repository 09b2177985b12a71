-- What is decided about an entry, whatever comes after it; for
-- `entries_are_decided_by_their_reasons`.
use Rattle.std.proofs.Common.{◌≡◌, List, [], ◌∷◌, ◌++◌, Option, None, Some, refl, ap, sym, ◌∙◌}
use Rattle.std.proofs.lemmas.List.{append-nil, append_assoc}
use Rattle.sym_edges.specs.declared.reason.Reason.{Reason}
use Rattle.sym_edges.specs.Addresses.{Range}
use Rattle.frame_entries.specs.declared.description.Body.{Body}
use Rattle.frame_entries.specs.declared.description.Body.TheVariants.{Good, Bad}
use Rattle.frame_entries.specs.declared.description.Entry.{Entry}
use Rattle.frame_entries.specs.FdeFields.{FdeFields}
use Rattle.rule_postfix.specs.declared.omission.Omission.{Omission}
use Rattle.rule_postfix.specs.Written.{Decided, body_reason, reason_of, with_fields, with_decision, with_entry, with_entries, decided_behind, decided_of}
use Rattle.rule_postfix.specs.Decision.{omission_for, fields_for, fields_of}
use Rattle.rule_postfix.proofs.DecidedLemmas.{entries_append}

-- A decision adds to the written entries and to the omissions.
fields_written : (b : Body) (d : Decided) → (with_fields b d).written ≡ d.written ++ fields_of b
fields_written (Good e) d = refl
fields_written (Bad why) d = sym (append-nil d.written)

fields_omitted : (b : Body) (d : Decided) → (with_fields b d).omitted ≡ d.omitted ++ []
fields_omitted (Good e) d = sym (append-nil d.omitted)
fields_omitted (Bad why) d = sym (append-nil d.omitted)

decision_written : (entry : Entry) (o : Option Reason) (d : Decided) → (with_decision entry o d).written ≡ d.written ++ fields_for entry o
decision_written entry None d = fields_written entry.body d
decision_written entry (Some why) d = sym (append-nil d.written)

decision_omitted : (entry : Entry) (o : Option Reason) (d : Decided) → (with_decision entry o d).omitted ≡ d.omitted ++ omission_for entry o
decision_omitted entry None d = fields_omitted entry.body d
decision_omitted entry (Some why) d = refl

-- Earlier omissions come before the later ones.
behind : (code : List Range) (entries : List Entry) (ws : List FdeFields) (os : List Omission) → (with_entries code entries (record { written = ws; omitted = os })).omitted ≡ os ++ (decided_behind code ws entries).omitted
unfolding with_entries with_entry decided_behind reason_of
behind code [] ws os = sym (append-nil os)
behind code (x ∷ entries) ws os =
    let d : Decided = record { written = ws; omitted = os } in
    let none : Decided = record { written = ws; omitted = [] } in
    let o : Option Reason = body_reason code ws x.body in
    let same : (with_decision x o none).written ≡ (with_decision x o d).written = decision_written x o none ∙ sym (decision_written x o d) in
    behind code entries (with_decision x o d).written (with_decision x o d).omitted
    ∙ ap (λ xs. xs ++ (decided_behind code (with_decision x o d).written entries).omitted) (decision_omitted x o d)
    ∙ append_assoc os (omission_for x o) (decided_behind code (with_decision x o d).written entries).omitted
    ∙ ap (λ xs. os ++ xs) (
    ap (λ xs. xs ++ (decided_behind code (with_decision x o d).written entries).omitted) (sym (decision_omitted x o none))
    ∙ ap (λ vs. (with_decision x o none).omitted ++ (decided_behind code vs entries).omitted) (sym same)
    ∙ sym (behind code entries (with_decision x o none).written (with_decision x o none).omitted))

-- The decision about an entry comes between the omissions before it and those after it.
pub omitted_there : (code : List Range) (xs ys : List Entry) (entry : Entry) → (decided_of code (xs ++ entry ∷ ys)).omitted
    ≡ (decided_of code xs).omitted ++ (omission_for entry (reason_of code (decided_of code xs).written entry) ++ (decided_behind code (decided_of code (xs ++ entry ∷ [])).written ys).omitted)
unfolding with_entries with_entry decided_behind decided_of
omitted_there code xs ys entry =
    let d : Decided = decided_of code xs in
    let o : Option Reason = reason_of code d.written entry in
    ap (λ x. x.omitted) (entries_append code xs (entry ∷ ys) (record { written = []; omitted = [] }))
    ∙ behind code ys (with_decision entry o d).written (with_decision entry o d).omitted
    ∙ ap (λ os. os ++ (decided_behind code (with_decision entry o d).written ys).omitted) (decision_omitted entry o d)
    ∙ append_assoc d.omitted (omission_for entry o) (decided_behind code (with_decision entry o d).written ys).omitted
    ∙ ap (λ ws. d.omitted ++ (omission_for entry o ++ (decided_behind code ws ys).omitted)) (sym (ap (λ x. x.written) (entries_append code xs (entry ∷ []) (record { written = []; omitted = [] }))))

pub written_there : (code : List Range) (xs : List Entry) (entry : Entry) → (decided_of code (xs ++ entry ∷ [])).written ≡ (decided_of code xs).written ++ fields_for entry (reason_of code (decided_of code xs).written entry)
unfolding with_entries with_entry decided_behind decided_of
written_there code xs entry =
    ap (λ x. x.written) (entries_append code xs (entry ∷ []) (record { written = []; omitted = [] }))
    ∙ decision_written entry (reason_of code (decided_of code xs).written entry) (decided_of code xs)
