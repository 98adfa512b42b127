-- Two texts of each format that is known (OpenAPI 3.0, `format`; the formats of apiextensions.k8s.io/v1), of values that are reserved for
-- documentation where there are such (this project's own choice).
use Rattle.std.specs.Prelude.{ℕ, List, [], ◌∷◌, if◌then◌else◌, codes}
use Rattle.std.specs.Str.{bytes_eq}

abbrev pub texts_of_format : List ℕ → List (List ℕ)
texts_of_format f =
    if bytes_eq f (codes "date-time") then codes "1970-01-01T00:00:00Z" ∷ codes "2030-12-31T23:59:59Z" ∷ [] else
    if bytes_eq f (codes "date") then codes "1970-01-01" ∷ codes "2030-12-31" ∷ [] else
    if bytes_eq f (codes "uri") then codes "https://example.org" ∷ codes "https://example.org/a" ∷ [] else
    if bytes_eq f (codes "hostname") then codes "example.org" ∷ codes "a.example.org" ∷ [] else
    if bytes_eq f (codes "ipv4") then codes "192.0.2.1" ∷ codes "198.51.100.1" ∷ [] else
    if bytes_eq f (codes "ipv6") then codes "2001:db8::1" ∷ codes "2001:db8::2" ∷ [] else
    if bytes_eq f (codes "cidr") then codes "192.0.2.0/24" ∷ codes "2001:db8::/32" ∷ [] else
    if bytes_eq f (codes "uuid") then codes "00000000-0000-4000-8000-000000000000" ∷ codes "ffffffff-ffff-4fff-bfff-ffffffffffff" ∷ [] else
    if bytes_eq f (codes "byte") then codes "YQ==" ∷ codes "YWFh" ∷ [] else
    if bytes_eq f (codes "email") then codes "a@example.org" ∷ codes "b@example.org" ∷ [] else
    if bytes_eq f (codes "duration") then codes "1s" ∷ codes "1h" ∷ [] else []
