-- Fields as tuples of their parts, one to one: what a proof needs to distinguish two of them.
use Rattle.std.specs.Prelude.{ℕ, List, Bool, Option, refl}
use Rattle.std.specs.Coded.{Coded, code_by, coded×, coded_bool, coded_list, coded_option}
use Rattle.jtree.specs.Data.{Data, Items}
use Rattle.jtree.specs.Internal.Code.{coded_bytes, data_coded, items_coded}
use Rattle.schema.specs.Internal.NodeCode.{list_type_coded, map_type_coded}
use Rattle.schema.specs.declared.node.ListType.{ListType}
use Rattle.schema.specs.declared.node.MapType.{MapType}
use Rattle.explain.specs.Fields.Field.{Field}

abbrev Flags : Type 0
Flags = Bool × Bool

abbrev Merging : Type 0
Merging = Option ListType × (Option MapType × List (List ℕ))

abbrev Values : Type 0
Values = Items × (Option Data × Option (List ℕ))

abbrev pub field_coded : Coded Field
field_coded = code_by ((List ℕ × List ℕ) × (Flags × (Merging × Values)))
    (coded× (coded× coded_bytes coded_bytes) (coded× (coded× coded_bool coded_bool)
    (coded× (coded× (coded_option list_type_coded) (coded× (coded_option map_type_coded) (coded_list coded_bytes)))
    (coded× items_coded (coded× (coded_option data_coded) (coded_option coded_bytes))))))
    (λ f. ((f.path, f.type_text), ((f.required, f.nullable), ((f.list_type, (f.map_type, f.keys)), (f.choices, (f.default, f.description))))))
    (λ t. record {
      path = t.0.0;
      type_text = t.0.1;
      required = t.1.0.0;
      nullable = t.1.0.1;
      list_type = t.1.1.0.0;
      map_type = t.1.1.0.1.0;
      keys = t.1.1.0.1.1;
      choices = t.1.1.1.0;
      default = t.1.1.1.1.0;
      description = t.1.1.1.1.1;
    })
    (λ _. refl)

abbrev pub fields_coded : Coded (List Field)
fields_coded = coded_list field_coded
