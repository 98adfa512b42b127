-- For private contracts: which parts the parts of the code stand for.
use Rattle.schema.specs.Internal.Named as named
use Rattle.schema.specs.declared.rules.junctors.NamePart.{NamePart}
use Rattle.schema.specs.declared.rules.junctors.NamePart.TheVariants as part

abbrev pub name_part_view : NamePart → named.NamePart
name_part_view part.Names = named.names
name_part_view part.Branches = named.some_branches
name_part_view part.Branch = named.one_branch
name_part_view part.Other = named.no_name
