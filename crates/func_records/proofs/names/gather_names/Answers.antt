use Rattle.std.proofs.Common.{◌≡◌, get_or, map, subst, ◌∙◌, arith}
use Rattle.func_records.specs.internal.Origins.{made_name}
use Rattle.unit_workers.specs.Shares.{share}
use Rattle.func_records.specs.internal.Shares.{MakerParts}
use Rattle.func_records.proofs.ShareLemmas.{shares_mapped}
use Rattle.func_records.proofs.names.gather_names.Goals as goal

pub returns : goal.returns
returns g c =
    c.in_ok-texts.ensures
    ∙ shares_mapped (λ one. one.items) (made_name c.args.units.now) c.in_ok-shares.shares.items c.args.refs.now
    (omega (arith, c.in_ok-count.ensures.all, c.in_ok-shares.ensures.count, c.in_ok-shares.shares.ok.0))
    (λ k d below. subst (λ (m : MakerParts). (get_or c.in_ok-shares.shares.items k d).items ≡ map (made_name m.units) (share 512 k m.refs)) c.of-maker.ensures (c.in_ok-shares.ensures.each k d below))
