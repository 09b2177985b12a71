use Rattle.std.proofs.Common.{refl, rules, sym, subst}
use Rattle.func_records.specs.internal.Origins.{RefsSay}
use Rattle.func_records.proofs.OriginLemmas.{refs_more}
use Rattle.func_records.proofs.origin_refs.OriginRefs.add.Goals as goal

pub returns : goal.returns
returns c = λ units names say.
    refs_more units _ _ names c.args.name _ c.in_ok-place.place (search rules) c.in_ok-push.ensures.items refl
    (subst (λ parts. RefsSay units parts names) (sym c.self.view_is) say)
