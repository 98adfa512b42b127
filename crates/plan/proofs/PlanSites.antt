-- What the parts of the sites of a plan are, and that what was begun there can be completed.
use Rattle.std.specs.Prelude.{◌≡◌, ℕ, ◌≤◌, ◌<◌, List, [], ◌∷◌, length, get_or, filter, Option, Some, None, Contains}
use Rattle.std.proofs.Common.{refl, sym, ◌∙◌, subst, inl, inr, arith}
use Rattle.std.proofs.lemmas.List.{get_or_default}
use Rattle.std.proofs.lemmas.List.Elements.{All-contains}
use Rattle.jtree.specs.Data.{Data}
use Rattle.jtree.specs.Internal.Rising.{Among, contains}
use Rattle.schema.specs.Nodes.Node.{Node, node, scalar, object, list, open_}
use Rattle.schema.specs.Nodes.Node as nodes
use Rattle.stored.specs.Schemas.Accepted.{IsSchema}
use Rattle.plan.specs.Pools.Pools.{Pools}
use Rattle.plan.specs.Samples.Question.{Question}
use Rattle.plan.specs.Samples.Sites.{Site, where_fixed, sites_of, item_site, Slot, slots, slots_at}
use Rattle.plan.specs.Samples.Candidates.{sort_at, sort_of}
use Rattle.plan.specs.Samples.RuleOfParts.{RuleOfParts}
use Rattle.plan.specs.Samples.NoDeadEnd.{NoDeadEnd, is_key, AreCounts}
use Rattle.plan.specs.Samples.Keys.{HasSoundParts}
use Rattle.plan.specs.Internal.Arena.{IsSlot, AreSlots, HasContent, AreRight}
use Rattle.plan.specs.Samples.Sites.{site_at}
use Rattle.plan.specs.Internal.PartLaws.{PartLaws}
use Rattle.plan.specs.Internal.Plan.{IsPlan}
use Rattle.plan.specs.Internal.Values.{candidates_of}
use Rattle.plan.specs.declared.sort.Sort.TheVariants.{Leaf, Row}
use Rattle.plan.specs.declared.values.Values.{Values}
use Rattle.plan.specs.declared.arena.SlotEntry.{SlotEntry}
use Rattle.plan.specs.declared.arena.Content.{Content}
use Rattle.plan.specs.declared.arena.Content.TheVariants as content
use Rattle.plan.specs.declared.arena.Entry.{Entry}
use Rattle.plan.proofs.DeadEndLemmas.{HasCandidates, HaveCandidates, key_counts, rule_of_parts, no_dead_end}
use Rattle.plan.specs.Internal.Laws.{StoredLaw, SchemaLaws}
use Rattle.plan.proofs.PlanLemmas.{item_sort}
use Rattle.plan.proofs.SoundPartLemmas.{sound_parts}
use Rattle.plan.proofs.SoundLemmas.{IsSoundSite, sites_sound, sound_here}

slot_entry : (names : List (List ℕ)) (sites : List Site) (i : ℕ) (es : List SlotEntry) (ss : List Slot) → AreSlots names sites i es ss → (s : Slot) → Among ss s → (e : SlotEntry) × IsSlot names sites i e s
slot_entry names sites i [] [] h s a = absurd a
slot_entry names sites i (e ∷ es) (t ∷ ss) h s (inl is) = (e, subst (IsSlot names sites i e) is h.0)
slot_entry names sites i (e ∷ es) (t ∷ ss) h s (inr a) = slot_entry names sites i es ss h.1 s a
slot_entry names sites i es ss h s a = absurd h

-- the candidates of a leaf, and the sites of the slots of a row
record IsKnown (P : Pools) (limit : ℕ) (sites : List Site) (i : ℕ) : Type 0 where
  pub leaf : HasCandidates P limit (site_at sites i)
  pub slot : sort_of (site_at sites i) ≡ Row → (s : Slot) → Among (slots P (site_at sites i)) s → (j : ℕ) × ((j < i) × (site_at sites j ≡ s.site))

some_of : {X : Type 0} (xs : List X) → 1 ≤ length xs → X
some_of [] l = absurd (omega arith)
some_of (x ∷ xs) l = x

module _ {Z : Type 0} (holds : Z → ℕ → Type 0) (limit : ℕ) (P : Pools) (v : Values) (sites : List Site) where
  known : (i : ℕ) (c : Content Z) → HasContent holds limit P v sites i c → IsKnown P limit sites i
  known i (content.Leaf l) h = record { leaf = λ is. (candidates_of v l, h.candidates); slot = λ is s a. let no = sym h.sort ∙ is in absurd (cc) }
  known i (content.Row r) h = record {
    leaf = λ is. let no = sym h.sort ∙ is in absurd (cc);
    slot = λ is s a. let e = slot_entry v.names.items sites i r.slots.items (slots P (site_at sites i)) h.are s a in (e.0.node, (e.1.below, e.1.node));
  }
  known i (content.List l) h =
      let sort = item_sort P (site_at sites i) (site_at sites l.item) h.item in
      record { leaf = λ is. let no = sym sort ∙ is in absurd (cc); slot = λ is s a. let no = sym sort ∙ is in absurd (cc) }

  module _ (es : List (Entry Z)) (count : length es ≡ length sites) (right : AreRight holds limit P v sites es) where
    known_at : (i : ℕ) → i < length es → IsKnown P limit sites i
    known_at i l = let d = some_of es (omega arith) in known i (get_or es i d).content (right i d l).content

    candidates : (s : Site) → Contains sites s → HaveCandidates P limit s
    candidates s c =
        let l : c.0 < length es = let below = c.1 in omega arith in
        let k = known_at c.0 l in
        subst (HaveCandidates P limit) (get_or_default sites c.0 _ s c.1 ∙ c.2) (record {
          own = k.leaf;
          below = λ row t a. let j = k.slot row t a in subst (HasCandidates P limit) j.1.1 (known_at j.0 (let below = j.1.0 in omega arith)).leaf;
        })

-- at each site of a plan, in terms of its view
pub plan_rules : StoredLaw → PartLaws → SchemaLaws → {Z : Type 0} (holds : Z → ℕ → Type 0) (BITS : ℕ) (root : Node) (P : Pools) (limit : ℕ) (v : Values) (es : List (Entry Z)) (first : ℕ) (q : Question)
    → IsSchema root → IsPlan holds BITS root P limit v es first → record { root = root; pools = P; limit = limit } ≡ q → (s : Site) → Contains (sites_of q.pools q.root) s → RuleOfParts q.pools q.limit s × NoDeadEnd q.pools q.limit s
plan_rules stored laws schema_laws holds BITS root P limit v es first q schema plan view =
    let sites = sites_of P root in
    let have = candidates holds limit P v sites es plan.count plan.right in
    subst (λ (x : Question). (s : Site) → Contains (sites_of x.pools x.root) s → RuleOfParts x.pools x.limit s × NoDeadEnd x.pools x.limit s) view (λ s c.
    let sound = All-contains (IsSoundSite P sites) sites s (sites_sound P schema_laws root schema) c in (
      rule_of_parts laws P limit s sound.0 (have s c).own,
      no_dead_end stored laws P limit s plan.room sound.0 (sound_here s.node sound.1) (λ M is. have M (contains sites M (sound.2 M is))),
    ))

pub plan_parts : StoredLaw → PartLaws → SchemaLaws → (root : Node) (P : Pools) (limit : ℕ) (q : Question) → IsSchema root → record { root = root; pools = P; limit = limit } ≡ q
    → (s : Site) → Contains (sites_of q.pools q.root) s → HasSoundParts q.pools s × ((M : Site) → item_site q.pools s ≡ Some M → Contains (sites_of q.pools q.root) M)
plan_parts stored laws schema_laws root P limit q schema view =
    let sites = sites_of P root in
    subst (λ (x : Question). (s : Site) → Contains (sites_of x.pools x.root) s → HasSoundParts x.pools s × ((M : Site) → item_site x.pools s ≡ Some M → Contains (sites_of x.pools x.root) M)) view (λ s c.
    let sound = All-contains (IsSoundSite P sites) sites s (sites_sound P schema_laws root schema) c in
    (sound_parts stored laws P s sound.0 (sound_here s.node sound.1) sound.3, λ M is. contains sites M (sound.2 M is)))

-- ---- the keys of a row

slot_row : (P : Pools) (fixed : Option (List Data)) (path : List ℕ) (N : Node) (keys : List (List ℕ)) (t : Slot) → Among (where_fixed fixed [] (slots_at P path N keys)) t → where_fixed fixed Leaf (sort_at N) ≡ Row
slot_row P (Some ds) path N keys t a = absurd a
slot_row P None path (node n d (object fs preserves type b cs)) keys t a = refl
slot_row P None path (node n d (nodes.map M type b)) keys t a = refl
slot_row P None path (node n d (scalar kind cs)) keys t a = absurd a
slot_row P None path (node n d (list M type ks b)) keys t a = absurd a
slot_row P None path (node n d open_) keys t a = absurd a

-- the numbers of their candidates, at each site of a plan
pub plan_counts : {Z : Type 0} (holds : Z → ℕ → Type 0) (BITS : ℕ) (root : Node) (P : Pools) (limit : ℕ) (v : Values) (es : List (Entry Z)) (first : ℕ) (q : Question) → IsPlan holds BITS root P limit v es first
    → record { root = root; pools = P; limit = limit } ≡ q → ((s : Site) → Contains (sites_of q.pools q.root) s → HasSoundParts q.pools s) → (s : Site) → Contains (sites_of q.pools q.root) s → (ns : List ℕ) × AreCounts q.pools (filter is_key (slots q.pools s)) ns
plan_counts holds BITS root P limit v es first q plan view =
    subst (λ (x : Question). ((s : Site) → Contains (sites_of x.pools x.root) s → HasSoundParts x.pools s) → (s : Site) → Contains (sites_of x.pools x.root) s → (ns : List ℕ) × AreCounts x.pools (filter is_key (slots x.pools s)) ns) view (λ sound s c.
    key_counts P limit s plan.room (slot_row P s.fixed s.path s.node s.keys) (sound s c).keys (candidates holds limit P v (sites_of P root) es plan.count plan.right s c))
