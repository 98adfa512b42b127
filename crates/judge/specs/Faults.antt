-- What is wrong with a value, and where: each pair of a path and a test, in path order and then by number (the order is this project's own).
use Rattle.std.specs.Prelude.{◌≡◌, ℕ, List, [], ◌∷◌, map, All, AllPairs, Contains, Bool, true, false, Some, not, ◌&&◌, ◌||◌, string_bytes}
use Rattle.std.specs.Ordering.{nat_cmp, ordering_then}
use Rattle.std.specs.declared.cmp.Ordering.{Ordering}
use Rattle.std.specs.declared.cmp.Ordering.TheVariants.{Less}
use Rattle.jtree.specs.Data.{Data, boolean, object}
use Rattle.jtree.specs.Path.{Path}
use Rattle.jtree.specs.PathOrder.{path_cmp}
use Rattle.jtree.specs.Pointer.{pointer}
use Rattle.judge.specs.Keywords.{Texts, passes_if_asked, number}
use Rattle.judge.specs.Meets.{parts, junctors}
use Rattle.judge.specs.Asked.{Place, value_at, missing, root, place_at}
use Rattle.judge.specs.declared.test.Test.{Test}
use Rattle.judge.specs.declared.test.Test.TheVariants.{Required, Duplicate, Junctor}
use Rattle.judge.specs.declared.finding.Fault.{Fault}

-- ---- the tests of keywords

abbrev pub is_junctor : Test → Bool
is_junctor Junctor = true
is_junctor _ = false

-- A value fails a test of a schema. The schema `false` is failed as `not: {}` is.
abbrev pub fails : Texts → Data → Data → Test → Bool
fails m (object ks) v t = not (passes_if_asked m ks (junctors (parts m ks)) t v)
fails m (boolean b) v t = is_junctor t && not b
fails m _ v t = false

abbrev pub some_fails : Texts → List Data → Data → Test → Bool
some_fails m [] v t = false
some_fails m (s ∷ ss) v t = fails m s v t || some_fails m ss v t

-- ---- the tests of a place: `Asking` says which tests a value fails by the schemas that are asked of it, whatever the tests are

abbrev pub Asking : Type 0
Asking = List Data → Data → Test → Bool

-- A missing name fails `required`, and that an item repeats another is found by its list.
abbrev pub fails_at : Asking → Place → Test → Bool
fails_at ask missing Required = true
fails_at ask missing _ = false
fails_at ask (value_at ss repeated v) Required = false
fails_at ask (value_at ss repeated v) Duplicate = repeated
fails_at ask (value_at ss repeated v) t = ask ss v t

-- there is a place at the path, and it fails the test
pub record IsFault (ask : Asking) (from : Place) (path : Path) (t : Test) : Type 0 where
  pub place : Place
  pub there : place_at from path ≡ Some place
  pub fails_there : fails_at ask place t ≡ true

-- no place has a fault
abbrev pub IsValid : Asking → Data → Data → Type 0
IsValid ask s v = (path : Path) (t : Test) → IsFault ask (root s v) path t → ⊥

-- ---- all of them, in order

pub record Failure : Type 0 where
  pub path : Path
  pub test : Test

abbrev pub failure_cmp : Failure → Failure → Ordering
failure_cmp f g = ordering_then (path_cmp f.path g.path) (nat_cmp (number f.test) (number g.test))

pub record AreFailures (Has : Path → Test → Type 0) (fs : List Failure) : Type 0 where
  pub each : All (λ f. Has f.path f.test) fs
  pub all : (path : Path) (t : Test) → Has path t → Contains fs (record { path = path; test = t })
  pub ascending : AllPairs (λ f g. failure_cmp f g ≡ Less) fs

-- a fault as the pointer of its path and its test
pub record Reported : Type 0 where
  pub path : List ℕ
  pub test : Test

abbrev pub reported : Fault → Reported
reported f = record { path = string_bytes f.path; test = f.test }

abbrev pub reported_of : Failure → Reported
reported_of f = record { path = pointer f.path; test = f.test }

-- the faults are all those of the value, in order, each once
abbrev pub AreFaults : Asking → Data → Data → List Fault → Type 0
AreFaults ask s v faults = (fs : List Failure) × AreFailures (IsFault ask (root s v)) fs × (map reported faults ≡ map reported_of fs)
