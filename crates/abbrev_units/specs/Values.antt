-- The values of an entry (DWARF 5, 7.5.2): one for each attribute of its abbreviation, in the same order.
use Rattle.std.specs.Prelude.{List, [], ◌∷◌, Result, Ok, Err}
use Rattle.sym_edges.specs.Results.{◌>>=◌}
use Rattle.leb_cursor.specs.Ahead.{Ahead}
use Rattle.abbrev_units.specs.declared.fault.FormFault.{FormFault}
use Rattle.abbrev_units.specs.declared.value.Value.{Value}
use Rattle.abbrev_units.specs.declared.value.Given.{Given}
use Rattle.abbrev_units.specs.SpecFields.{SpecFields}
use Rattle.abbrev_units.specs.FormValue.{form_at}

-- the value of an attribute
abbrev pub value_at : SpecFields → Ahead → Result (Value × Ahead) FormFault
value_at spec c = form_at spec.form spec.implicit spec.wide c

-- the values of attributes, one after another
unfoldable pub values_at : List SpecFields → Ahead → Result (List Given × Ahead) FormFault
values_at [] c = Ok ([], c)
values_at (spec ∷ specs) c =
    value_at spec c >>= λ first.
    values_at specs first.1 >>= λ later.
    Ok (record { attribute = spec.attribute; value = first.0 } ∷ later.0, later.1)

-- what is left ahead after a reading, without its value
abbrev pub only_ahead : {A E : Type 0} → Result (A × Ahead) E → Result Ahead E
only_ahead (Ok x) = Ok x.1
only_ahead (Err fault) = Err fault

-- what is left ahead after the values of attributes, or the first fault in these values
unfoldable pub behind_values : List SpecFields → Ahead → Result Ahead FormFault
behind_values specs c = only_ahead (values_at specs c)
