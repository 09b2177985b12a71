use Rattle.std.proofs.Common.{ℕ, List, sym, subst, ◌∙◌}
use Rattle.die_names.specs.NameRefs.{name_bytes}
use Rattle.func_flatten.specs.internal.NameKeys.{IsKey, kept, kept_more}
use Rattle.func_flatten.proofs.NameLemmas.{joined_kept, key_clean, key_omitted}
use Rattle.func_flatten.proofs.scope_keys.ScopeKeys.key.Goals as goal

pub returns-clause-key : goal.returns-clause-key
returns-clause-key c =
    let units = c.args.units.now in
    let name = c.name_of-name.result in
    let key = subst (IsKey units c.with-key.result) (joined_kept units name c.name_parts-parts.result.is_joined c.name_parts-parts.result.bytes.now _ c.name_parts-parts.ensures) (c.with-key.ensures units _ c.in_ok-front.ensures.key) in
    subst (IsKey units c.with-key.result) c.name_of-name.ensures.name (key_clean units c.with-key.result (name_bytes units name) (sym (c.is_empty.ensures units _ key) ∙ c.if-is_empty.false) key)

pub returns-then-is_empty-clause-key : goal.returns-then-is_empty-clause-key
returns-then-is_empty-clause-key c =
    let units = c.args.units.now in
    let name = c.name_of-name.result in
    let key = subst (IsKey units c.with-key.result) (joined_kept units name c.name_parts-parts.result.is_joined c.name_parts-parts.result.bytes.now _ c.name_parts-parts.ensures) (c.with-key.ensures units _ c.in_ok-front.ensures.key) in
    subst (IsKey units c.with.result) c.name_of-name.ensures.name
    (key_omitted units c.with.result (name_bytes units name) (sym (c.is_empty.ensures units _ key) ∙ c.if-is_empty.true)
    (subst (λ (shown : List ℕ). IsKey units c.with.result (kept_more (kept (name_bytes units name)) shown)) c.name_omitted.ensures (c.with.ensures units _ key)))
