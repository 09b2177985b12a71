use Rattle.std.proofs.Common.{◌∙◌, sym, subst, rules}
use Rattle.std.specs.List.{All}
use Rattle.debug_read.specs.internal.Owing.{IsTable}
use Rattle.debug_read.proofs.LineLemmas.{no_table}
use Rattle.debug_read.proofs.OwingLemmas.{named_by, named_sound, named_whole, named_refused}
use Rattle.debug_read.proofs.unit_tables.lines_of.Goals as goal

pub returns-in_default : goal.returns-in_default
returns-in_default c = λ spans same.
    no_table c.args.known.now.sections.now c.args.root.now spans c.args.function c.in_ok-lines.lines (search rules) (c.in_ok-lines.ensures ∙ c.requires.empty)

pub returns-in_ok-kept-in-Whole : goal.returns-in_ok-kept-in-Whole
returns-in_ok-kept-in-Whole c = λ spans alike.
    let code = c.args.known.now.code.now in
    let sections = c.args.known.now.sections.now in
    let one = c.in-Some-find_table.one.now in
    let table = c.in-Some-find_table.ensures.table code sections (subst (All (IsTable code sections)) (sym c.as_slice.ensures.value) c.requires.tables) in
    let named = named_by code sections c.args.root.now c.in-Some.offset c.args.function c.name_of-name.result one (search rules) c.name_of-name.ensures.offset c.name_of-name.ensures.kept c.name_of-name.ensures.comp_dir table c.in-Some-find_table.ensures.name in
    named_whole code sections c.args.root.now spans c.args.function one c.in-Whole.lines c.in_ok-kept-in-Whole.kept named c.in-Whole.is alike c.in_ok-kept-in-Whole.ensures

pub returns-in-Refused : goal.returns-in-Refused
returns-in-Refused c = λ spans alike.
    let code = c.args.known.now.code.now in
    let sections = c.args.known.now.sections.now in
    let one = c.in-Some-find_table.one.now in
    let table = c.in-Some-find_table.ensures.table code sections (subst (All (IsTable code sections)) (sym c.as_slice.ensures.value) c.requires.tables) in
    let named = named_by code sections c.args.root.now c.in-Some.offset c.args.function c.name_of-name.result one (search rules) c.name_of-name.ensures.offset c.name_of-name.ensures.kept c.name_of-name.ensures.comp_dir table c.in-Some-find_table.ensures.name in
    named_refused code sections c.args.root.now c.args.function one c.in-Refused.fault named c.in-Refused.is

pub returns-in_ok-lines-in-Sound : goal.returns-in_ok-lines-in-Sound
returns-in_ok-lines-in-Sound c = λ spans alike.
    let code = c.args.known.now.code.now in
    let sections = c.args.known.now.sections.now in
    let one = c.in-Some-find_table.one.now in
    let table = c.in-Some-find_table.ensures.table code sections (subst (All (IsTable code sections)) (sym c.as_slice.ensures.value) c.requires.tables) in
    let named = named_by code sections c.args.root.now c.in-Some.offset c.args.function c.name_of-name.result one (search rules) c.name_of-name.ensures.offset c.name_of-name.ensures.kept c.name_of-name.ensures.comp_dir table c.in-Some-find_table.ensures.name in
    named_sound code sections c.args.root.now spans c.args.function one c.in_ok-lines-in-Sound.lines named c.in-Sound.is (search rules) (c.in_ok-lines-in-Sound.ensures ∙ c.requires.empty)
