-- What is known of a site stays true where the pools differ elsewhere.
use Rattle.std.proofs.Common.{◌≡◌, ◌↔◌, ◌+◌, ◌-◌, ℕ, zero, suc, List, [], ◌∷◌, ◌++◌, Bool, false, Option, Some, None, refl, sym, ap, subst, ◌∙◌, inl, inr, append-nil, append_assoc, length, get_or, drop}
use Rattle.std.specs.Prelude.{◌&&◌, not, is_some, unwrap_or, option_and_then, map, filter}
use Rattle.std.specs.declared.vec.Vec.{Vec}
use Rattle.std.specs.declared.alloc.Global.{Global}
use Rattle.jtree.specs.Data.{Data, Members}
use Rattle.jtree.specs.Data as tree
use Rattle.jtree.specs.Path.{Path, member_at}
use Rattle.jtree.specs.Internal.Rising.{Among, contained}
use Rattle.schema.specs.declared.node.ScalarKind.{ScalarKind}
use Rattle.schema.specs.declared.node.ScalarKind.TheVariants.{Boolean, Integer, Number, String, IntOrString}
use Rattle.schema.specs.declared.node.ListType.{ListType}
use Rattle.schema.specs.declared.node.ListType.TheVariants.{Atomic, Set, Map}
use Rattle.schema.specs.Document.Texts.{is_among}
use Rattle.schema.specs.Nodes.Node.{Node, node, Validations, scalar, object, list, open_, Fields, no_fields, field}
use Rattle.schema.specs.Nodes.Node as nodes
use Rattle.schema.specs.Nodes.ByPlace.{field_at}
use Rattle.stored.specs.Objects.Fault.{constraints_of, items_count, members_count}
use Rattle.stored.specs.Objects.Becomes.{is_nullable}
use Rattle.explain.specs.Paths.FieldPath.{FieldStep, FieldPath}
use Rattle.explain.specs.Paths.FieldPath as step
use Rattle.explain.specs.Paths.PathText.{step_text, path_text}
use Rattle.plan.specs.Pools.Pools.{Pools, entries_in, is_present}
use Rattle.plan.specs.Samples.Leasts.{leasts}
use Rattle.plan.specs.Samples.Over.{choices_or, scalars_for, listed, all_names, asks_field, asks_below, has_present, has_enough, is_over_here, IsOverAlong}
use Rattle.plan.specs.Samples.Part.{IsPart}
use Rattle.plan.specs.Samples.Names.{in_order}
use Rattle.plan.specs.Samples.Presence.{named}
use Rattle.plan.specs.Samples.Site.{fixed_below}
use Rattle.plan.specs.Samples.Sites.{Site, below, where_fixed, fixed_item, item_site, item_site_at, Slot, slots, slots_at, field_slots, value_slot, site_at}
use Rattle.plan.specs.Samples.Candidates.{AreCandidates, IsCandidate}
use Rattle.plan.specs.Samples.Sizes.{IsUpTo, HasSize, AreFillings, CanFill, HasMore, Before, Ending, ending_at, ending_of}
use Rattle.plan.specs.Samples.RuleOfParts.{admits_null}
use Rattle.plan.specs.Samples.NoDeadEnd.{is_key, AreCounts}
use Rattle.plan.specs.Samples.Keys.{AreKeySlots, HasTuples}
use Rattle.plan.specs.Internal.Tables.{AreTables}
use Rattle.plan.specs.Internal.Arena.{AreSlots, AreLater, IsRight, HasContent}
use Rattle.plan.specs.Internal.Values.{IsBase, AreValues}
use Rattle.plan.specs.Internal.Frame.{ListTheSame, IsSameAt, AreSameBelow}
use Rattle.plan.specs.declared.values.Values.{Values}
use Rattle.plan.specs.declared.arena.SlotEntry.{SlotEntry}
use Rattle.plan.specs.declared.arena.Content.{Content}
use Rattle.plan.specs.declared.arena.Content.TheVariants as content
use Rattle.plan.specs.declared.arena.Entry.{Entry}
use Rattle.std.proofs.lemmas.Option.{same_Some}
use Rattle.plan.proofs.ApartLemmas.{among_filter}
use Rattle.plan.proofs.FixedLemmas.{item_unfixed}
use Rattle.plan.proofs.TupleLemmas.{all_same}

-- ---- the other way round

pub lists_back : (P Q : Pools) → ListTheSame P Q → ListTheSame Q P
lists_back P Q h = record { scalars = sym h.scalars; numbers = sym h.numbers; any = sym h.any; paths = sym h.paths; names = sym h.names }

below_back : (P Q : Pools) (text : List ℕ) → AreSameBelow P Q text → AreSameBelow Q P text
below_back P Q text h t x = let s = h t x in (sym s.0, sym s.1)

-- ---- one step down

pub step_same : (P Q : Pools) (text : List ℕ) (t : FieldStep) → AreSameBelow P Q text → IsSameAt P Q (below text t)
step_same P Q text t h = subst (IsSameAt P Q) (append-nil (below text t)) (h t [])

pub under_same : (P Q : Pools) (text : List ℕ) (t : FieldStep) → AreSameBelow P Q text → AreSameBelow P Q (below text t)
under_same P Q text t h u x = subst (IsSameAt P Q) (sym (append_assoc (below text t) (step_text u) (path_text x))) (h t (u ∷ x))

item_same : (P Q : Pools) (type : ListType) (text : List ℕ) → IsSameAt P Q text → fixed_item Q type text ≡ fixed_item P type text
item_same P Q Atomic text h = h.1
item_same P Q (Set e) text h = h.1
item_same P Q (Map e) text h = refl

fixed_same : (P Q : Pools) (at : List ℕ) (N : Node) (t : FieldStep) → AreSameBelow P Q at → fixed_below Q at N t ≡ fixed_below P at N t
fixed_same P Q at (node n d (list N type keys b)) t h = item_same P Q type (below at t) (step_same P Q at t h)
fixed_same P Q at (node n d (scalar kind cs)) t h = (step_same P Q at t h).1
fixed_same P Q at (node n d (object fs preserves type b cs)) t h = (step_same P Q at t h).1
fixed_same P Q at (node n d (nodes.map N type b)) t h = (step_same P Q at t h).1
fixed_same P Q at (node n d open_) t h = (step_same P Q at t h).1

-- ---- a value at its node

scalars_same : (P Q : Pools) (kind : ScalarKind) → ListTheSame P Q → scalars_for kind Q ≡ scalars_for kind P
scalars_same P Q Number l = λ i. l.numbers i ++ l.scalars i
scalars_same P Q Boolean l = l.scalars
scalars_same P Q Integer l = l.scalars
scalars_same P Q String l = l.scalars
scalars_same P Q IntOrString l = l.scalars

listed_same : (P Q : Pools) (at : List ℕ) (n : Bool) (d : Option (List ℕ)) (kind : ScalarKind) (cs : Validations) → ListTheSame P Q → listed Q at (node n d (scalar kind cs)) ≡ listed P at (node n d (scalar kind cs))
listed_same P Q at n d kind cs l =
    ap (λ ms. leasts (unwrap_or (option_and_then entries_in (member_at at ms)) (choices_or (constraints_of cs).choices (scalars_for kind Q)))) l.paths
    ∙ ap (λ xs. leasts (unwrap_or (option_and_then entries_in (member_at at P.paths)) (choices_or (constraints_of cs).choices xs))) (scalars_same P Q kind l)

open_same : (P Q : Pools) (at : List ℕ) (n : Bool) (d : Option (List ℕ)) → ListTheSame P Q → listed Q at (node n d open_) ≡ listed P at (node n d open_)
open_same P Q at n d l =
    ap (λ ms. leasts (unwrap_or (option_and_then entries_in (member_at at ms)) Q.any)) l.paths ∙ ap (λ xs. leasts (unwrap_or (option_and_then entries_in (member_at at P.paths)) xs)) l.any

pub asks_same : (P Q : Pools) (at : List ℕ) (fs : Fields) → AreSameBelow P Q at → asks_field Q at fs ≡ asks_field P at fs
asks_same P Q at no_fields h = refl
asks_same P Q at (field k N required default fs) h = rw ((step_same P Q at (step.field k) h).0, asks_same P Q at fs h) refl

present_same : (P Q : Pools) (at : List ℕ) (fs : Fields) (ms : Members) → AreSameBelow P Q at → has_present Q at fs ms ≡ has_present P at fs ms
present_same P Q at no_fields ms h = refl
present_same P Q at (field k N required default fs) ms h = rw ((step_same P Q at (step.field k) h).0, present_same P Q at fs ms h) refl

here_same : (P Q : Pools) (at : List ℕ) (N : Node) (v : Data) → ListTheSame P Q → AreSameBelow P Q at → is_over_here Q at N v ≡ is_over_here P at N v
here_same P Q at (node n d (scalar kind cs)) tree.null l h = rw (listed_same P Q at n d kind cs l) refl
here_same P Q at (node n d (scalar kind cs)) (tree.boolean b) l h = rw (listed_same P Q at n d kind cs l) refl
here_same P Q at (node n d (scalar kind cs)) (tree.integer z) l h = rw (listed_same P Q at n d kind cs l) refl
here_same P Q at (node n d (scalar kind cs)) (tree.number s) l h = rw (listed_same P Q at n d kind cs l) refl
here_same P Q at (node n d (scalar kind cs)) (tree.text s) l h = rw (listed_same P Q at n d kind cs l) refl
here_same P Q at (node n d (scalar kind cs)) (tree.list ds) l h = rw (listed_same P Q at n d kind cs l) refl
here_same P Q at (node n d (scalar kind cs)) (tree.object ms) l h = rw (listed_same P Q at n d kind cs l) refl
here_same P Q at (node n d open_) tree.null l h = rw (open_same P Q at n d l) refl
here_same P Q at (node n d open_) (tree.boolean b) l h = rw (open_same P Q at n d l) refl
here_same P Q at (node n d open_) (tree.integer z) l h = rw (open_same P Q at n d l) refl
here_same P Q at (node n d open_) (tree.number s) l h = rw (open_same P Q at n d l) refl
here_same P Q at (node n d open_) (tree.text s) l h = rw (open_same P Q at n d l) refl
here_same P Q at (node n d open_) (tree.list ds) l h = rw (open_same P Q at n d l) refl
here_same P Q at (node n d open_) (tree.object ms) l h = rw (open_same P Q at n d l) refl
here_same P Q at (node n d (object fs preserves type b cs)) (tree.object ms) l h = ap (λ x. all_names (λ k. is_some (field_at k fs)) ms && x) (present_same P Q at fs ms h)
here_same P Q at (node n d (object fs preserves type b cs)) tree.null l h = ap not (asks_same P Q at fs h)
here_same P Q at (node n d (object fs preserves type b cs)) (tree.boolean x) l h = refl
here_same P Q at (node n d (object fs preserves type b cs)) (tree.integer z) l h = refl
here_same P Q at (node n d (object fs preserves type b cs)) (tree.number s) l h = refl
here_same P Q at (node n d (object fs preserves type b cs)) (tree.text s) l h = refl
here_same P Q at (node n d (object fs preserves type b cs)) (tree.list ds) l h = refl
here_same P Q at (node n d (nodes.map N type b)) (tree.object ms) l h =
    ap (λ xs. all_names (λ k. is_among k xs) ms && has_enough (is_present (below at step.value) Q) (members_count ms)) l.names
    ∙ ap (λ x. all_names (λ k. is_among k P.names) ms && has_enough x (members_count ms)) (step_same P Q at step.value h).0
here_same P Q at (node n d (nodes.map N type b)) tree.null l h = ap not (step_same P Q at step.value h).0
here_same P Q at (node n d (nodes.map N type b)) (tree.boolean x) l h = refl
here_same P Q at (node n d (nodes.map N type b)) (tree.integer z) l h = refl
here_same P Q at (node n d (nodes.map N type b)) (tree.number s) l h = refl
here_same P Q at (node n d (nodes.map N type b)) (tree.text s) l h = refl
here_same P Q at (node n d (nodes.map N type b)) (tree.list ds) l h = refl
here_same P Q at (node n d (list N type keys b)) (tree.list ds) l h = ap (λ x. has_enough x (items_count ds)) (step_same P Q at step.item h).0
here_same P Q at (node n d (list N type keys b)) tree.null l h = ap not (step_same P Q at step.item h).0
here_same P Q at (node n d (list N type keys b)) (tree.boolean x) l h = refl
here_same P Q at (node n d (list N type keys b)) (tree.integer z) l h = refl
here_same P Q at (node n d (list N type keys b)) (tree.number s) l h = refl
here_same P Q at (node n d (list N type keys b)) (tree.text s) l h = refl
here_same P Q at (node n d (list N type keys b)) (tree.object ms) l h = refl

over_same : (P Q : Pools) → ListTheSame P Q → (fixed : Option (List Data)) (at : List ℕ) (N : Node) (v : Data) → AreSameBelow P Q at → (path : Path) (p : FieldPath) → IsOverAlong P fixed at N v path p → IsOverAlong Q fixed at N v path p
over_same P Q l (Some ds) at N v h path p o = o
over_same P Q l None at N v h [] [] o = here_same P Q at N v l h ∙ o
over_same P Q l None at N v h [] (t ∷ p) o = tt
over_same P Q l None at N v h (s ∷ path) [] o = tt
over_same P Q l None at N v h (s ∷ path) (t ∷ p) o = λ M w follows leads found.
    subst (λ f. IsOverAlong Q f (below at t) M w path p) (sym (fixed_same P Q at N t h))
    (over_same P Q l (fixed_below P at N t) (below at t) M w (under_same P Q at t h) path p (o M w follows leads found))

part_same : (P Q : Pools) (s : Site) → ListTheSame P Q → AreSameBelow P Q s.path → (v : Data) → IsPart P s v → IsPart Q s v
part_same P Q s l h v part = record { tree = part.tree; stored = part.stored; over = λ path p. over_same P Q l s.fixed s.path s.node v h path p (part.over path p) }

-- the site has the same parts
abbrev pub HaveSameParts : Pools → Pools → Site → Type 0
HaveSameParts P Q s = (v : Data) → IsPart P s v ↔ IsPart Q s v

pub same_parts : (P Q : Pools) (s : Site) → ListTheSame P Q → AreSameBelow P Q s.path → HaveSameParts P Q s
same_parts P Q s l h v = (part_same P Q s l h v, part_same Q P s (lists_back P Q l) (below_back P Q s.path h) v)

-- ---- what is said of the parts

up_same : (limit : ℕ) (A X Y : ℕ → Type 0) → ((n : ℕ) → X n ↔ Y n) → IsUpTo limit A X → IsUpTo limit A Y
up_same limit A X Y both h n = ((λ a. let r = (h n).0 a in (r.0, (both n).0 r.1)), λ r. (h n).1 (r.0, (both n).1 r.1))

same_back : (P Q : Pools) (s : Site) → HaveSameParts P Q s → HaveSameParts Q P s
same_back P Q s h v = ((h v).1, (h v).0)

size_over : (P Q : Pools) (s : Site) (n : ℕ) → HaveSameParts P Q s → HasSize P s n → HasSize Q s n
size_over P Q s n h size = record { part = size.part; is = (h size.part).0 size.is; nodes_are = size.nodes_are }

candidates_over : (P Q : Pools) (limit : ℕ) (s : Site) (vs : List Data) → HaveSameParts P Q s → AreCandidates P limit s vs → AreCandidates Q limit s vs
candidates_over P Q limit s vs h are = all_same (IsCandidate P limit s) (IsCandidate Q limit s) vs (λ v. ((λ c. ((h v).0 c.0, c.1)), λ c. ((h v).1 c.0, c.1))) are

more_over : (P Q : Pools) (limit : ℕ) (s : Site) (t m : ℕ) → HaveSameParts P Q s → HasMore P limit s t m → HasMore Q limit s t m
more_over P Q limit s t m h x = record { items = x.items; part = (h (tree.list x.items)).0 x.part; fits = x.fits; many = x.many; nodes_are = x.nodes_are }

-- ---- slots

abbrev SlotsAreSame : Pools → Pools → List Slot → Type 0
SlotsAreSame P Q ss = (t : Slot) → Among ss t → HaveSameParts P Q t.site

slots_back : (P Q : Pools) (ss : List Slot) → SlotsAreSame P Q ss → SlotsAreSame Q P ss
slots_back P Q ss h t a = same_back P Q t.site (h t a)

fillings_over : (P Q : Pools) (ss : List Slot) (gs : List (Option Data)) → SlotsAreSame P Q ss → AreFillings P ss gs → AreFillings Q ss gs
fillings_over P Q [] [] h f = tt
fillings_over P Q [] (g ∷ gs) h f = absurd f
fillings_over P Q (s ∷ ss) [] h f = absurd f
fillings_over P Q (s ∷ ss) (None ∷ gs) h f = (f.0, fillings_over P Q ss gs (λ t a. h t (inr a)) f.1)
fillings_over P Q (s ∷ ss) (Some v ∷ gs) h f = ((h s (inl refl) v).0 f.0, fillings_over P Q ss gs (λ t a. h t (inr a)) f.1)

fill_over : (P Q : Pools) (ss : List Slot) (e : Ending) (x : Before) (m : ℕ) → SlotsAreSame P Q ss → CanFill P ss e x m → CanFill Q ss e x m
fill_over P Q ss e x m h f = record { fillings = f.fillings; are = fillings_over P Q ss f.fillings h f.are; ends = f.ends; nodes_are = f.nodes_are }

counts_over : (P Q : Pools) (ss : List Slot) (ns : List ℕ) → SlotsAreSame P Q ss → AreCounts P ss ns → AreCounts Q ss ns
counts_over P Q [] [] h c = tt
counts_over P Q [] (n ∷ ns) h c = absurd c
counts_over P Q (s ∷ ss) [] h c = absurd c
counts_over P Q (s ∷ ss) (n ∷ ns) h c =
    (record { values = c.0.values; are = all_same (IsPart P s.site) (IsPart Q s.site) c.0.values (h s (inl refl)) c.0.are; count_is = c.0.count_is }, counts_over P Q ss ns (λ t a. h t (inr a)) c.1)

tuples_over : (P Q : Pools) (ss : List Slot) (n : ℕ) → SlotsAreSame P Q ss → HasTuples P ss n → HasTuples Q ss n
tuples_over P Q ss n h x = (x.0, (counts_over P Q (filter is_key ss) x.0 (λ t a. h t (among_filter is_key ss t a).0) x.1.0, x.1.1))

among_drop : {X : Type 0} (k : ℕ) (xs : List X) (v : X) → Among (drop k xs) v → Among xs v
among_drop zero xs v a = a
among_drop (suc k) [] v a = a
among_drop (suc k) (x ∷ xs) v a = inr (among_drop k xs v a)

keys_over : (P Q : Pools) (ss : List Slot) → SlotsAreSame P Q ss → AreKeySlots P ss → AreKeySlots Q ss
keys_over P Q ss h keys s c key =
    let k = keys s c key in
    let same = h s (contained ss s c) in
    record { must = k.must; leaf = k.leaf; one = λ v p. k.one v ((same v).1 p); no_null = λ p. k.no_null ((same tree.null).1 p); one_value = λ e v w p q. k.one_value e v w ((same v).1 p) ((same w).1 q) }

later_over : (P Q : Pools) (ss : List Slot) (ns : List ℕ) → SlotsAreSame P Q ss → AreLater P ss ns → AreLater Q ss ns
later_over P Q ss ns h later k n l keys =
    let rest = drop (k + 1) ss in
    let same : SlotsAreSame P Q rest = λ t a. h t (among_drop (k + 1) ss t a) in
    tuples_over P Q rest (get_or ns k n) same (later k n l (keys_over Q P rest (slots_back P Q rest same) keys))

tables_over : {Z : Type 0} (holds : Z → ℕ → Type 0) (limit : ℕ) (e : Ending) (P Q : Pools) (ss : List Slot) (tables : List (Vec (Vec Z Global) Global)) → SlotsAreSame P Q ss → AreTables holds limit e P ss tables → AreTables holds limit e Q ss tables
tables_over holds limit e P Q ss tables h are k d l seen level m t z n =
    let rest = drop (length ss - k) ss in
    let x : Before = record { count = t; seen = seen } in
    let same : SlotsAreSame P Q rest = λ u a. h u (among_drop (length ss - k) ss u a) in
    up_same limit _ (CanFill P rest e x) (CanFill Q rest e x) (λ i. (fill_over P Q rest e x i same, fill_over Q P rest e x i (slots_back P Q rest same))) (are k d l seen level m t z n)

-- ---- the site itself

field_slots_same : (P Q : Pools) (path : List ℕ) (keys names : List (List ℕ)) (fs : Fields) → AreSameBelow P Q path → field_slots Q path keys names fs ≡ field_slots P path keys names fs
field_slots_same P Q path keys names no_fields h = refl
field_slots_same P Q path keys names (field k N required default fs) h =
    rw ((step_same P Q path (step.field k) h).0, (step_same P Q path (step.field k) h).1, field_slots_same P Q path keys names fs h) refl

slots_at_same : (P Q : Pools) (path : List ℕ) (N : Node) (keys : List (List ℕ)) → ListTheSame P Q → AreSameBelow P Q path → slots_at Q path N keys ≡ slots_at P path N keys
slots_at_same P Q path (node n d (object fs preserves type b cs)) keys l h = field_slots_same P Q path keys (named cs) fs h
slots_at_same P Q path (node n d (nodes.map N type b)) keys l h =
    let slot : Option (List Data) → List ℕ → Slot = λ f k. record { name = k; site = record { node = N; keys = []; path = below path step.value; fixed = f }; must = false; key = false; bit = None } in
    ap (λ f. map (slot f) (in_order Q.names)) (step_same P Q path step.value h).1 ∙ ap (λ xs. map (value_slot P path N) (in_order xs)) l.names
slots_at_same P Q path (node n d (scalar kind cs)) keys l h = refl
slots_at_same P Q path (node n d (list N type ks b)) keys l h = refl
slots_at_same P Q path (node n d open_) keys l h = refl

slots_same : (P Q : Pools) (s : Site) → ListTheSame P Q → AreSameBelow P Q s.path → slots Q s ≡ slots P s
slots_same P Q s l h = ap (where_fixed s.fixed []) (slots_at_same P Q s.path s.node s.keys l h)

item_at_same : (P Q : Pools) (path : List ℕ) (N : Node) → AreSameBelow P Q path → item_site_at Q path N ≡ item_site_at P path N
item_at_same P Q path (node n d (list N type keys b)) h = rw (item_same P Q type (below path step.item) (step_same P Q path step.item h)) refl
item_at_same P Q path (node n d (scalar kind cs)) h = refl
item_at_same P Q path (node n d (object fs preserves type b cs)) h = refl
item_at_same P Q path (node n d (nodes.map N type b)) h = refl
item_at_same P Q path (node n d open_) h = refl

item_site_same : (P Q : Pools) (s : Site) → AreSameBelow P Q s.path → item_site Q s ≡ item_site P s
item_site_same P Q s h = ap (where_fixed s.fixed None) (item_at_same P Q s.path s.node h)

pub asks_below_same : (P Q : Pools) (path : List ℕ) (N : Node) → AreSameBelow P Q path → asks_below Q path N ≡ asks_below P path N
asks_below_same P Q path (node n d (object fs preserves type b cs)) h = asks_same P Q path fs h
asks_below_same P Q path (node n d (nodes.map N type b)) h = (step_same P Q path step.value h).0
asks_below_same P Q path (node n d (list N type keys b)) h = (step_same P Q path step.item h).0
asks_below_same P Q path (node n d (scalar kind cs)) h = refl
asks_below_same P Q path (node n d open_) h = refl

null_same : (P Q : Pools) (s : Site) → AreSameBelow P Q s.path → admits_null Q s ≡ admits_null P s
null_same P Q s h = ap (λ b. is_nullable s.node && not b) (asks_below_same P Q s.path s.node h)

ending_same : (P Q : Pools) (s : Site) → AreSameBelow P Q s.path → ending_of Q s ≡ ending_of P s
ending_same P Q s h = at s.path s.node h where
  at : (path : List ℕ) (N : Node) → AreSameBelow P Q path → ending_at Q path N ≡ ending_at P path N
  at path (node n d (object fs preserves type b cs)) h = refl
  at path (node n d (nodes.map N type b)) h = rw (step_same P Q path step.value h).0 refl
  at path (node n d (list N type keys b)) h = rw (step_same P Q path step.item h).0 refl
  at path (node n d (scalar kind cs)) h = refl
  at path (node n d open_) h = refl

-- the site of a slot is one step down
field_path : (P : Pools) (path : List ℕ) (keys names : List (List ℕ)) (fs : Fields) (t : Slot) → Among (field_slots P path keys names fs) t → (u : FieldStep) × (below path u ≡ t.site.path)
field_path P path keys names no_fields t a = absurd a
field_path P path keys names (field k N required default fs) t (inl e) = (step.field k, ap (λ x. Site.path (Slot.site x)) e)
field_path P path keys names (field k N required default fs) t (inr a) = field_path P path keys names fs t a

value_path : (P : Pools) (path : List ℕ) (N : Node) (names : List (List ℕ)) (t : Slot) → Among (map (value_slot P path N) names) t → (u : FieldStep) × (below path u ≡ t.site.path)
value_path P path N [] t a = absurd a
value_path P path N (k ∷ names) t (inl e) = (step.value, ap (λ x. Site.path (Slot.site x)) e)
value_path P path N (k ∷ names) t (inr a) = value_path P path N names t a

slot_path : (P : Pools) (path : List ℕ) (N : Node) (keys : List (List ℕ)) (t : Slot) → Among (slots_at P path N keys) t → (u : FieldStep) × (below path u ≡ t.site.path)
slot_path P path (node n d (object fs preserves type b cs)) keys t a = field_path P path keys (named cs) fs t a
slot_path P path (node n d (nodes.map N type b)) keys t a = value_path P path N (in_order P.names) t a
slot_path P path (node n d (scalar kind cs)) keys t a = absurd a
slot_path P path (node n d (list N type ks b)) keys t a = absurd a
slot_path P path (node n d open_) keys t a = absurd a

slot_step : (P : Pools) (fixed : Option (List Data)) (path : List ℕ) (N : Node) (keys : List (List ℕ)) (t : Slot) → Among (where_fixed fixed [] (slots_at P path N keys)) t → (u : FieldStep) × (below path u ≡ t.site.path)
slot_step P None path N keys t a = slot_path P path N keys t a
slot_step P (Some ds) path N keys t a = absurd a

-- and so is that of items
item_step : (P : Pools) (path : List ℕ) (N : Node) (M : Site) → item_site_at P path N ≡ Some M → below path step.item ≡ M.path
item_step P path (node n d (list N type keys b)) M e = ap Site.path (same_Some _ M e)
item_step P path (node n d (scalar kind cs)) M e = absurd (cc)
item_step P path (node n d (object fs preserves type b cs)) M e = absurd (cc)
item_step P path (node n d (nodes.map N type b)) M e = absurd (cc)
item_step P path (node n d open_) M e = absurd (cc)

item_same_at : (P Q : Pools) (s M : Site) → AreSameBelow P Q s.path → item_site P s ≡ Some M → IsSameAt P Q M.path
item_same_at P Q s M h is = subst (IsSameAt P Q) (item_step P s.path s.node M (item_unfixed P s M is).1) (step_same P Q s.path step.item h)

-- ---- entries

-- where nothing differs at its path, a site is the same
abbrev pub AreAlike : Pools → Pools → List Site → List Site → Type 0
AreAlike P Q sites others = (j : ℕ) → IsSameAt P Q (site_at sites j).path → site_at others j ≡ site_at sites j

slots_over : (P Q : Pools) (names : List (List ℕ)) (sites others : List Site) (i : ℕ) (es : List SlotEntry) (ss : List Slot) → AreAlike P Q sites others → ((t : Slot) → Among ss t → IsSameAt P Q t.site.path)
    → AreSlots names sites i es ss → AreSlots names others i es ss
slots_over P Q names sites others i [] [] alike same h = tt
slots_over P Q names sites others i [] (s ∷ ss) alike same h = absurd h
slots_over P Q names sites others i (e ∷ es) [] alike same h = absurd h
slots_over P Q names sites others i (e ∷ es) (s ∷ ss) alike same h =
    let here = alike e.node (subst (λ x. IsSameAt P Q (Site.path x)) (sym h.0.node) (same s (inl refl))) in
    (record { name = h.0.name; below = h.0.below; node = here ∙ h.0.node; must = h.0.must; key = h.0.key; bit = h.0.bit }, slots_over P Q names sites others i es ss alike (λ t a. same t (inr a)) h.1)

module _ {Z : Type 0} (holds : Z → ℕ → Type 0) (limit : ℕ) (P Q : Pools) (v : Values) (sites others : List Site) (lists : ListTheSame P Q) (alike : AreAlike P Q sites others) where
  content_over : (i : ℕ) (c : Content Z) → site_at others i ≡ site_at sites i → AreSameBelow P Q (site_at sites i).path → HasContent holds limit P v sites i c → HasContent holds limit Q v others i c
  content_over i (content.Leaf l) here h c = record { sort = rw here c.sort; candidates = rw here (candidates_over P Q limit (site_at sites i) _ (same_parts P Q (site_at sites i) lists h) c.candidates) }
  content_over i (content.Row r) here h c =
      let s = site_at sites i in
      let down : (t : Slot) → Among (slots P s) t → (u : FieldStep) × (below s.path u ≡ t.site.path) = slot_step P s.fixed s.path s.node s.keys in
      let at : (t : Slot) → Among (slots P s) t → IsSameAt P Q t.site.path = λ t a. let d = down t a in subst (IsSameAt P Q) d.1 (step_same P Q s.path d.0 h) in
      let same : SlotsAreSame P Q (slots P s) = λ t a. let d = down t a in same_parts P Q t.site lists (subst (AreSameBelow P Q) d.1 (under_same P Q s.path d.0 h)) in
      let ss = slots_same P Q s lists h in
      let ending = ending_same P Q s h in
      record {
        sort = rw here c.sort;
        are = rw (here, ss) (slots_over P Q v.names.items sites others i r.slots.items (slots P s) alike at c.are);
        later_whole = c.later_whole;
        later = rw (here, ss) (later_over P Q (slots P s) r.later.items same c.later);
        bits = c.bits;
        whole = c.whole;
        shaped = rw (here, ending) c.shaped;
        tables = rw (here, ss, ending) (tables_over holds limit (ending_of P s) P Q (slots P s) r.tables.items same c.tables);
      }
  content_over i (content.List l) here h c =
      let s = site_at sites i in
      let same = same_parts P Q s lists h in
      record {
        item = rw (here, item_site_same P Q s h) (c.item ∙ ap Some (sym (alike l.item (item_same_at P Q s (site_at sites l.item) h c.item))));
        below = c.below;
        distinct = rw here c.distinct;
        whole = c.whole;
        more = λ t z lt. rw here (up_same limit _ (HasMore P limit s t) (HasMore Q limit s t) (λ m. (more_over P Q limit s t m same, more_over Q P limit s t m (same_back P Q s same))) (c.more t z lt));
      }

  -- the entry of a site at which nothing differs
  pub right_over : (i : ℕ) (e : Entry Z) → site_at others i ≡ site_at sites i → AreSameBelow P Q (site_at sites i).path → IsRight holds limit P v sites i e → IsRight holds limit Q v others i e
  right_over i e here h right =
      let s = site_at sites i in
      let same = same_parts P Q s lists h in
      record {
        sizes = rw here (up_same limit (holds e.sizes) (HasSize P s) (HasSize Q s) (λ n. (size_over P Q s n same, size_over Q P s n (same_back P Q s same))) right.sizes);
        nullable = right.nullable ∙ sym (rw here (null_same P Q s h));
        content = content_over i e.content here h right.content;
      }

pub values_over : (P Q : Pools) (v : Values) → ListTheSame P Q → AreValues P v → AreValues Q v
values_over P Q v l h = record {
  scalars = subst (λ ds. IsBase (tree.null ∷ leasts ds) v.scalars.items) (sym l.scalars) h.scalars;
  numbers = subst (λ ds. IsBase (tree.null ∷ leasts ds) v.numbers.items) (sym (λ i. l.numbers i ++ l.scalars i)) h.numbers;
  kinds = h.kinds;
  any = subst (λ ds. IsBase (tree.null ∷ leasts ds) v.any.items) (sym l.any) h.any;
  names = h.names ∙ sym (ap in_order l.names);
}
