-- The expressions of formats, in Go's syntax: those of the API server's tests, and where these are parsers of Go (`net.ParseIP`,
-- `net.ParseCIDR`, `net.ParseMAC`, `mail.ParseAddress`, `url.ParseRequestURI`, `time.Parse`, `time.ParseDuration`), what they read.
use Rattle.std.specs.Prelude.{ℕ, List, [], ◌∷◌, ◌++◌, codes}
use Rattle.formats.specs.declared.format.Format.{Format}
use Rattle.formats.specs.declared.format.Format.TheVariants.{BsonObjectId, Byte, Cidr, CreditCard, Date, DateTime, Duration, Email, HexColor, Hostname, Ipv4, Ipv6, Isbn, Isbn10, Isbn13, LongName, Mac, Password, RgbColor, ShortName, Ssn, Uri, Uuid, Uuid3, Uuid4, Uuid5}

abbrev pub Text : Type 0
Text = List ℕ

-- the whole text is one of this expression
abbrev pub whole : Text → Text
whole e = codes "^" ++ (e ++ codes "$")

-- ---- addresses

-- a decimal number of up to 255, with zeros before it; and without
abbrev pub octet : Text
octet = codes "0*(25[0-5]|2[0-4][0-9]|1[0-9][0-9]|[1-9]?[0-9])"

abbrev pub strict_octet : Text
strict_octet = codes "(25[0-5]|2[0-4][0-9]|1[0-9][0-9]|[1-9]?[0-9])"

-- four of them
abbrev pub four : Text → Text
four o = codes "(" ++ (o ++ (codes "[.]){3}" ++ o))

-- a group of an IPv6 address
abbrev pub group : Text
group = codes "0*[0-9a-fA-F]{1,4}"

-- groups before or behind `::`
abbrev pub groups : Text
groups = codes "(" ++ (group ++ (codes "(:" ++ (group ++ codes ")*)?")))

-- all eight groups; with `::`; six groups and an IPv4 address; and with `::` before that
abbrev pub full : Text
full = codes "(" ++ (group ++ (codes ":){7}" ++ group))

abbrev pub shortened : Text
shortened = groups ++ (codes "::" ++ groups)

abbrev pub full_mixed : Text → Text
full_mixed o = codes "(" ++ (group ++ (codes ":){6}" ++ four o))

abbrev pub shortened_mixed : Text → Text
shortened_mixed o = groups ++ (codes "::(" ++ (group ++ (codes ":)*" ++ four o)))

-- the length of a prefix
abbrev pub of_32 : Text
of_32 = codes "/0*(3[0-2]|[12]?[0-9])"

abbrev pub of_128 : Text
of_128 = codes "/0*(12[0-8]|1[01][0-9]|[1-9]?[0-9])"

-- 6, 8 or 20 bytes by two digits with this between them; and by four digits
abbrev pub pairs : Text → Text
pairs between =
    let pair : Text = between ++ codes "[0-9a-fA-F]{2}" in
    whole (codes "[0-9a-fA-F]{2}((" ++ (pair ++ (codes "){5}|(" ++ (pair ++ (codes "){7}|(" ++ (pair ++ codes "){19})"))))))

abbrev pub fours : Text
fours = codes "^[0-9a-fA-F]{4}(([.][0-9a-fA-F]{4}){2}|([.][0-9a-fA-F]{4}){3}|([.][0-9a-fA-F]{4}){9})$"

-- ---- addresses of mail

-- atoms with dots between them
abbrev pub atom : Text
atom = codes "[^\\x00- \\x7f()<>@,;:\\\\\".\\[\\]]+"

abbrev pub atoms : Text
atoms = atom ++ (codes "([.]" ++ (atom ++ codes ")*"))

-- a character of a text in quotes
abbrev pub quoted : Text
quoted = codes "\"([^\\x00-\\x08\\x0a-\\x1f\\x7f\"\\\\]|\\\\[^\\x00-\\x08\\x0a-\\x1f\\x7f])"

abbrev pub mailbox : Text
mailbox = codes "(" ++ (atoms ++ (codes "|" ++ (quoted ++ (codes "+\")@[ \\t]*" ++ atoms))))

abbrev pub comment : Text
comment = codes "[(]([^()\\\\]|\\\\.)*[)]"

abbrev pub end_of_mail : Text
end_of_mail = codes "([ \\t]|" ++ (comment ++ codes ")*$")

abbrev pub address : Text
address = codes "^[ \\t]*" ++ (mailbox ++ end_of_mail)

abbrev pub named_address : Text
named_address =
    codes "^[ \\t]*(([^\\x00- \\x7f<>\":]+|" ++ (quoted ++ (codes "*\")([ \\t]+|" ++ (comment ++ (codes ")*)*<[ \\t]*" ++ (mailbox ++ (codes ">" ++ end_of_mail))))))

abbrev pub begins_with_address : Text
begins_with_address = codes "^[ \\t]*" ++ (mailbox ++ codes "([\\x00- \\x7f()<>@,;:\\\\\"\\[\\]]|$)")

-- ---- URIs

abbrev pub escaped : Text
escaped = codes "%[0-9a-fA-F]{2}"

abbrev pub scheme : Text
scheme = codes "[a-zA-Z][a-zA-Z0-9+.-]*:"

abbrev pub path : Text
path = codes "([^%?\\x00-\\x1f\\x7f]|" ++ (escaped ++ codes ")*")

-- from `?` on, where it is there, and the end
abbrev pub query : Text
query = codes "([?][^\\x00-\\x1f\\x7f]*)?$"

abbrev pub path_and_query : Text
path_and_query = codes "(/" ++ (path ++ (codes ")?" ++ query))

abbrev pub user : Text
user = codes "(([a-zA-Z0-9._:~!$&'()*+,;=@-]|" ++ (escaped ++ codes ")*@)?")

-- a character of a host but a colon; and one that may be its first
abbrev pub in_host : Text
in_host = codes "[a-zA-Z0-9_.~!$&'()*+,;=\\[\\]<>\"-]|[^\\x00-\\x7f]|%25|%[89a-fA-F][0-9a-fA-F]"

abbrev pub first_of_host : Text
first_of_host = codes "[a-zA-Z0-9_.~!$&'()*+,;=\\]<>\"-]|[^\\x00-\\x7f]|%25|%[89a-fA-F][0-9a-fA-F]"

abbrev pub with_host : Text → Text
with_host host = codes "^" ++ (scheme ++ (codes "//" ++ (user ++ (host ++ path_and_query))))

-- a star; a path; opaque; a path behind a scheme; a host without a port, with one, and in brackets
abbrev pub uris : List Text
uris =
    codes "^[*]$"
    ∷ (codes "^/" ++ (path ++ query))
    ∷ (codes "^" ++ (scheme ++ codes "([^/\\x00-\\x1f\\x7f][^\\x00-\\x1f\\x7f]*)?$"))
    ∷ (codes "^" ++ (scheme ++ (codes "/(([^/%?\\x00-\\x1f\\x7f]|" ++ (escaped ++ (codes ")" ++ (path ++ (codes ")?" ++ query)))))))
    ∷ with_host (codes "((" ++ (first_of_host ++ (codes ")(" ++ (in_host ++ codes ")*)?"))))
    ∷ with_host (codes "((" ++ (first_of_host ++ (codes "|:)(" ++ (in_host ++ codes "|:)*)?:[0-9]*"))))
    ∷ with_host (codes "\\[(" ++ (in_host ++ codes "|:)*\\](:[0-9]*)?"))
    ∷ []

-- ---- durations

abbrev pub go_duration : Text
go_duration = codes "^[+-]?(0|(([0-9]+([.][0-9]*)?|[.][0-9]+)(ns|us|\\x{b5}s|\\x{3bc}s|ms|s|m|h))+)$"

abbrev pub with_unit : Text
with_unit = codes "[0-9][\\t\\n\\f\\r ]*((?i:nano|micro|milli|min|hour|day)|[sS](?i:ec)|(?i:wee)[kK]|([nNuU\\x{b5}mM]?[sS]|[mMhHdDwW]|[hH][rR]|[wW][kK])([^A-Za-z\\x{b5}]|$))"

-- the number has twenty digits, or comes after 9223372036854775807 by its digits
abbrev pub too_large : Text
too_large = codes "(^|[^0-9])0*([1-9][0-9]{19,}|" ++ (codes "9([3-9][0-9]{17}|2([3-9][0-9]{16}|2([4-9][0-9]{15}|3([4-9][0-9]{14}|3([8-9][0-9]{13}|7([3-9][0-9]{12}|2([1-9][0-9]{11}|0([4-9][0-9]{10}|3([7-9][0-9]{9}|6(9[0-9]{8}|8([6-9][0-9]{7}|5([5-9][0-9]{6}|4([8-9][0-9]{5}|7([8-9][0-9]{4}|7([6-9][0-9]{3}|5(9[0-9]{2}|8([1-9][0-9]{1}|0[8-9])))))))))))))))))" ++ codes ")[\\t\\n\\f\\r ]*[A-Za-z\\x{b5}]")

abbrev pub of_durations : List Text
of_durations = go_duration ∷ with_unit ∷ too_large ∷ []

-- ---- credit cards

-- the numbers of cards, with other characters before, between and behind the digits
abbrev pub credit_card : Text
credit_card = codes "^[^0-9]*(4[^0-9]*([0-9][^0-9]*){12}(([0-9][^0-9]*){3})?|5[^0-9]*[1-5][^0-9]*([0-9][^0-9]*){14}|6[^0-9]*(0[^0-9]*1[^0-9]*1[^0-9]*|5[^0-9]*([0-9][^0-9]*){2})([0-9][^0-9]*){12}|3[^0-9]*[47][^0-9]*([0-9][^0-9]*){13}|3[^0-9]*(0[^0-9]*[0-5][^0-9]*|[68][^0-9]*[0-9][^0-9]*)([0-9][^0-9]*){11}|(2[^0-9]*1[^0-9]*3[^0-9]*1[^0-9]*|1[^0-9]*8[^0-9]*0[^0-9]*0[^0-9]*|3[^0-9]*5[^0-9]*([0-9][^0-9]*){3})([0-9][^0-9]*){11})$"

-- ---- a format's

abbrev pub expressions_of : Format → List Text
expressions_of BsonObjectId = codes "^[0-9a-fA-F]{24}$" ∷ []
expressions_of Byte = codes "^(?:[A-Za-z0-9+\\/]{4})*(?:[A-Za-z0-9+\\/]{2}==|[A-Za-z0-9+\\/]{3}=|[A-Za-z0-9+\\/]{4})$" ∷ []
expressions_of Cidr = whole (four octet ++ of_32) ∷ whole (full ++ of_128) ∷ whole (shortened ++ of_128) ∷ whole (full_mixed octet ++ of_128) ∷ whole (shortened_mixed octet ++ of_128) ∷ []
expressions_of CreditCard = credit_card ∷ []
expressions_of Date = codes "^[0-9]{4}-[0-9]{2}-[0-9]{2}$" ∷ []
expressions_of DateTime = codes "^[0-9]{4}-[0-9]{2}-[0-9]{2}[tT]([01][0-9]|2[0-3]):[0-5][0-9]:[0-5][0-9]([^\\ntT][0-9]+)?([zZ]|[+-][0-9]{2}:[0-9]{2})($|[tT])" ∷ []
expressions_of Duration = of_durations
expressions_of Email = address ∷ named_address ∷ begins_with_address ∷ []
expressions_of HexColor = codes "^#?([0-9a-fA-F]{3}|[0-9a-fA-F]{6})$" ∷ []
expressions_of Hostname = codes "^([a-zA-Z0-9\\p{S}\\p{L}]((-?[a-zA-Z0-9\\p{S}\\p{L}]{0,62})?)|([a-zA-Z0-9\\p{S}\\p{L}](([a-zA-Z0-9-\\p{S}\\p{L}]{0,61}[a-zA-Z0-9\\p{S}\\p{L}])?)(\\.)){1,}([a-zA-Z\\p{L}]){2,63})$" ∷ []
expressions_of Ipv4 = whole (four octet) ∷ whole (full_mixed octet) ∷ whole (shortened_mixed octet) ∷ []
expressions_of Ipv6 = whole full ∷ whole shortened ∷ whole (full_mixed strict_octet) ∷ whole (shortened_mixed strict_octet) ∷ []
expressions_of Isbn = codes "^[\\s-]*([0-9][\\s-]*){9}[0-9X][\\s-]*$" ∷ codes "^[\\s-]*([0-9][\\s-]*){13}$" ∷ []
expressions_of Isbn10 = codes "^[\\s-]*([0-9][\\s-]*){9}[0-9X][\\s-]*$" ∷ []
expressions_of Isbn13 = codes "^[\\s-]*([0-9][\\s-]*){13}$" ∷ []
expressions_of LongName = codes "^[a-z0-9]([a-z0-9-]*[a-z0-9])?([.][a-z0-9]([a-z0-9-]*[a-z0-9])?)*$" ∷ []
expressions_of Mac = pairs (codes ":") ∷ pairs (codes "-") ∷ fours ∷ []
expressions_of Password = []
expressions_of RgbColor = codes "^rgb\\(\\s*(0|[1-9]\\d?|1\\d\\d?|2[0-4]\\d|25[0-5])\\s*,\\s*(0|[1-9]\\d?|1\\d\\d?|2[0-4]\\d|25[0-5])\\s*,\\s*(0|[1-9]\\d?|1\\d\\d?|2[0-4]\\d|25[0-5])\\s*\\)$" ∷ []
expressions_of ShortName = codes "^[a-z0-9]([a-z0-9-]{0,61}[a-z0-9])?$" ∷ []
expressions_of Ssn = codes "^\\d{3}[- ]\\d{2}[- ]\\d{4}$" ∷ []
expressions_of Uri = uris
expressions_of Uuid = codes "(?i)^[0-9a-f]{8}-?[0-9a-f]{4}-?[0-9a-f]{4}-?[0-9a-f]{4}-?[0-9a-f]{12}$" ∷ []
expressions_of Uuid3 = codes "(?i)^[0-9a-f]{8}-?[0-9a-f]{4}-?3[0-9a-f]{3}-?[0-9a-f]{4}-?[0-9a-f]{12}$" ∷ []
expressions_of Uuid4 = codes "(?i)^[0-9a-f]{8}-?[0-9a-f]{4}-?4[0-9a-f]{3}-?[89ab][0-9a-f]{3}-?[0-9a-f]{12}$" ∷ []
expressions_of Uuid5 = codes "(?i)^[0-9a-f]{8}-?[0-9a-f]{4}-?5[0-9a-f]{3}-?[89ab][0-9a-f]{3}-?[0-9a-f]{12}$" ∷ []
