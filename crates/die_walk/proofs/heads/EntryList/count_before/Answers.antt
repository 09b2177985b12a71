use Rattle.die_walk.specs.EntryTable.{DieFields}
use Rattle.die_walk.specs.internal.Sites.{HeldEntries}
use Rattle.std.proofs.Common.{ltb, rules, subst, sym, ap, ◌∙◌, map, List, ℕ}
use Rattle.std.proofs.lemmas.List.Sorted.{IsPartitionPoint-from_clause, IsPartitionedBy-ltb}
use Rattle.sym_edges.specs.Rising.{RisesFrom, StandBelow}
use Rattle.sym_edges.proofs.RisingLemmas.{sorted_by, stand_below}
use Rattle.die_walk.specs.declared.heads.Head.{Head}
use Rattle.die_walk.proofs.HeadLemmas.{held_places, stand_held}
use Rattle.die_walk.proofs.heads.EntryList.count_before.Goals as goal

pub returns : goal.returns
returns c =
    let rises = subst (λ (xs : List ℕ). RisesFrom 0 xs) (ap (λ (e : HeldEntries). map (λ (d : DieFields). d.at) e.dies) (sym c.self.view_is) ∙ held_places c.self.inside.parts.texts c.self.inside.parts.sites.items c.self.inside.parts.wides.items c.self.inside.heads.items) c.requires in
    let same = c.deref.ensures.value in
    let rising = subst (λ (heads : List Head). RisesFrom 0 (map (λ (h : Head). h.at) heads)) (sym same) rises in
    let parted = IsPartitionedBy-ltb (λ (h : Head). h.at) _ c.args.place (sorted_by (λ (h : Head). h.at) c.deref.result.now rising) in
    let point = IsPartitionPoint-from_clause (λ (h : Head). ltb h.at c.args.place) _ _ c.partition_point.ensures.partitioned parted (λ a r q k. search rules) in
    subst (λ (e : HeldEntries). StandBelow (λ (d : DieFields). d.at) c.args.place c.partition_point.result e.dies) c.self.view_is
    (stand_held c.self.inside.parts.texts c.self.inside.parts.sites.items c.self.inside.parts.wides.items c.self.inside.heads.items c.args.place c.partition_point.result
    (subst (λ (heads : List Head). StandBelow (λ (h : Head). h.at) c.args.place c.partition_point.result heads) same (stand_below (λ (h : Head). h.at) _ _ _ c.partition_point.ensures.bound point)))
