use Rattle.std.proofs.Common.{◌≡◌, length}
use Rattle.abbrev_units.specs.internal.FormRows.{AreRows}
use Rattle.abbrev_units.proofs.form_table.list_rows.Given as goal

abbrev pub invariant-codes : goal.invariant-codes
invariant-codes l = AreRows l.wide l.rows.items × (length l.rows.items ≡ l.code)
