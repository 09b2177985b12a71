-- A link, and the fields of a `.debug_sup`, as the specs see them.
use Rattle.std.specs.Prelude.{ℕ, List}
use Rattle.debug_pair.specs.SupLink.{SupLink}
use Rattle.debug_pair.specs.declared.sup_link.SupLink as code
use Rattle.debug_pair.specs.declared.sup_link.SupFields.{SupFields}

abbrev pub sup_link_view : code.SupLink → SupLink
sup_link_view l = record { path = l.path.now; id = l.id.now; by_build_id = l.by_build_id }

-- the name and the id
abbrev pub fields_view : SupFields → List ℕ × List ℕ
fields_view f = (f.name.now, f.id.now)
