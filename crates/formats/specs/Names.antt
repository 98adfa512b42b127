-- The names of formats (the API server's table of formats that it tests; other names ask nothing).
use Rattle.std.specs.Prelude.{ℕ, List, Option, Some, None, filter, not, if◌then◌else◌, ◌==◌, codes}
use Rattle.std.specs.Str.{bytes_eq}
use Rattle.formats.specs.declared.format.Format.{Format}
use Rattle.formats.specs.declared.format.Format.TheVariants.{BsonObjectId, Byte, Cidr, CreditCard, Date, DateTime, Duration, Email, HexColor, Hostname, Ipv4, Ipv6, Isbn, Isbn10, Isbn13, LongName, Mac, Password, RgbColor, ShortName, Ssn, Uri, Uuid, Uuid3, Uuid4, Uuid5}

abbrev pub without_dashes : List ℕ → List ℕ
without_dashes name = filter (λ b. not (b == 45)) name

abbrev pub named : List ℕ → Option Format
named name =
    if bytes_eq (without_dashes name) (codes "bsonobjectid") then Some BsonObjectId else
    if bytes_eq (without_dashes name) (codes "byte") then Some Byte else
    if bytes_eq (without_dashes name) (codes "cidr") then Some Cidr else
    if bytes_eq (without_dashes name) (codes "creditcard") then Some CreditCard else
    if bytes_eq (without_dashes name) (codes "date") then Some Date else
    if bytes_eq (without_dashes name) (codes "datetime") then Some DateTime else
    if bytes_eq (without_dashes name) (codes "duration") then Some Duration else
    if bytes_eq (without_dashes name) (codes "email") then Some Email else
    if bytes_eq (without_dashes name) (codes "hexcolor") then Some HexColor else
    if bytes_eq (without_dashes name) (codes "hostname") then Some Hostname else
    if bytes_eq (without_dashes name) (codes "ipv4") then Some Ipv4 else
    if bytes_eq (without_dashes name) (codes "ipv6") then Some Ipv6 else
    if bytes_eq (without_dashes name) (codes "isbn") then Some Isbn else
    if bytes_eq (without_dashes name) (codes "isbn10") then Some Isbn10 else
    if bytes_eq (without_dashes name) (codes "isbn13") then Some Isbn13 else
    if bytes_eq (without_dashes name) (codes "k8slongname") then Some LongName else
    if bytes_eq (without_dashes name) (codes "mac") then Some Mac else
    if bytes_eq (without_dashes name) (codes "password") then Some Password else
    if bytes_eq (without_dashes name) (codes "rgbcolor") then Some RgbColor else
    if bytes_eq (without_dashes name) (codes "k8sshortname") then Some ShortName else
    if bytes_eq (without_dashes name) (codes "ssn") then Some Ssn else
    if bytes_eq (without_dashes name) (codes "uri") then Some Uri else
    if bytes_eq (without_dashes name) (codes "uuid") then Some Uuid else
    if bytes_eq (without_dashes name) (codes "uuid3") then Some Uuid3 else
    if bytes_eq (without_dashes name) (codes "uuid4") then Some Uuid4 else
    if bytes_eq (without_dashes name) (codes "uuid5") then Some Uuid5 else None
