use Rattle.std.proofs.Common.{◌≡◌, false, true, arith}
use Rattle.std.specs.Prelude.{◌==◌}
use Rattle.std.specs.List.{list_all}
use Rattle.core_file.proofs.KeepLemmas.{kept_zeros, joined_zeros, kept_block, joined_block, no_room, few_blocks}
use Rattle.core_file.proofs.blocks.keep.Goals as goal

pub returns-then-are_zeros-clause-kept : goal.returns-then-are_zeros-clause-kept
returns-then-are_zeros-clause-kept c =
    let e = c.in_ok-keep_zeros.ensures in
    let z : list_all (λ b. b == 0) c.args.blocks.now.tail.items ≡ true = cc in
    kept_zeros c.args.blocks.now c.keep_zeros.new.blocks c.requires.kept c.requires.full z e.sizes e.count e.kept e.held

pub returns-then-are_zeros-clause-joined : goal.returns-then-are_zeros-clause-joined
returns-then-are_zeros-clause-joined c =
    let e = c.in_ok-keep_zeros.ensures in
    let z : list_all (λ b. b == 0) c.args.blocks.now.tail.items ≡ true = cc in
    joined_zeros c.args.blocks.now c.keep_zeros.new.blocks c.requires.kept c.requires.full z e.sizes e.kept e.held

pub returns-then-blocks-len-clause-joined : goal.returns-then-blocks-len-clause-joined
returns-then-blocks-len-clause-joined c =
    let z : list_all (λ b. b == 0) c.args.blocks.now.tail.items ≡ false = cc in
    no_room c.args.blocks.now c.requires.kept c.requires.full z (omega (arith, c.requires.kept.within))

pub keep_block-requires : goal.keep_block-requires
keep_block-requires c =
    few_blocks c.args.blocks.now c.requires.kept (omega (arith, c.requires.kept.within))

pub returns-clause-kept : goal.returns-clause-kept
returns-clause-kept c =
    let e = c.in_ok-keep_block.ensures in
    let z : list_all (λ b. b == 0) c.args.blocks.now.tail.items ≡ false = cc in
    kept_block c.args.blocks.now c.keep_block.new.blocks c.requires.kept c.requires.full z e.sizes (omega (arith, c.requires.kept.within)) e.count e.kept e.held

pub returns-clause-joined : goal.returns-clause-joined
returns-clause-joined c =
    let e = c.in_ok-keep_block.ensures in
    joined_block c.args.blocks.now c.keep_block.new.blocks c.requires.kept c.requires.full e.sizes e.kept e.held
