-- The context that is owned or borrowed by a `HeldContext`.
use Rattle.frame_rows.specs.declared.machine.CieContext.{CieContext}
use Rattle.frame_rows.specs.declared.held_context.HeldContext.{HeldContext}
use Rattle.frame_rows.specs.declared.held_context.HeldContext.TheVariants.{Own, Lent}

abbrev pub context_in : HeldContext → CieContext
context_in (Own context) = context.value
context_in (Lent context) = context.now
