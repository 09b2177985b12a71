use Rattle.std.proofs.Common.{refl}
use Rattle.core_file.proofs.CoreLemmas.{first_listing}
use Rattle.core_file.proofs.core_read.read_modules.Goals as goal

pub returns-in_default-clause-listing : goal.returns-in_default-clause-listing
returns-in_default-clause-listing c =
    first_listing c.args.parts.now.memory (record { modules = c.new.result; pages = c.new-2.result; code = c.add_loads.new.code }) c.new-3.result.items
    c.new.ensures.items c.new-3.ensures.items (λ a. rw c.new-2.ensures.empty refl) c.in_ok-add_loads.ensures.some
    (λ a below. rw (← c.segments.ensures) (c.in_ok-add_loads.ensures.added a below))

pub list_modules-requires-clause-listing : goal.list_modules-requires-clause-listing
list_modules-requires-clause-listing c =
    first_listing c.args.parts.now.memory (record { modules = c.new.result; pages = c.new-2.result; code = c.add_loads.new.code }) c.new-3.result.items
    c.new.ensures.items c.new-3.ensures.items (λ a. rw c.new-2.ensures.empty refl) c.in_ok-add_loads.ensures.some
    (λ a below. rw (← c.segments.ensures) (c.in_ok-add_loads.ensures.added a below))
