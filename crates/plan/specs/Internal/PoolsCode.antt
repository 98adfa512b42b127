-- Pools as the tuple of their lists, one to one: what a proof needs to distinguish two of them.
use Rattle.std.specs.Prelude.{ℤ, ℕ, List, refl}
use Rattle.std.specs.Coded.{Coded, code_by, coded×, coded_list, coded_ℤ}
use Rattle.jtree.specs.Data.{Data, Members}
use Rattle.jtree.specs.Internal.Code.{coded_bytes, data_coded, members_coded}
use Rattle.plan.specs.Pools.Pools.{Pools}

abbrev pub pools_coded : Coded Pools
pools_coded = code_by (((List ℤ × (List Data × List Data)) × (List (List ℕ) × List (List ℕ))) × (Members × (Members × List (List ℕ))))
    (coded× (coded× (coded× (coded_list coded_ℤ) (coded× (coded_list data_coded) (coded_list data_coded))) (coded× (coded_list coded_bytes) (coded_list coded_bytes))) (coded× members_coded (coded× members_coded (coded_list coded_bytes))))
    (λ P. (((P.integers, (P.any, P.numbers)), (P.strings, P.names)), (P.paths, (P.fixed, P.present))))
    (λ t. record { integers = t.0.0.0; numbers = t.0.0.1.1; strings = t.0.1.0; names = t.0.1.1; any = t.0.0.1.0; paths = t.1.0; fixed = t.1.1.0; present = t.1.1.1 }) (λ P. refl)
