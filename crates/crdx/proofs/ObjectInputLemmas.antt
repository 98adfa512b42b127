-- The documents of lines: one on each, or one over all of them.
use Rattle.std.proofs.Common.{◌≡◌, ℕ, suc, ◌+◌, ◌≤◌, ◌<◌, List, [], ◌∷◌, ◌++◌, length, map, take, get_or, Bor, Bool, Err, refl, sym, ap, ◌∙◌, subst, arith, length-append, append-nil, append_assoc}
use Rattle.std.specs.Prelude.{Contains}
use Rattle.std.proofs.lemmas.List.{get_or-map, length-map, map-append, take_more}
use Rattle.std.proofs.lemmas.List.Elements.{Contains-get_or}
use Rattle.jtree.specs.Data.{Data}
use Rattle.jtree.specs.Lines.{newline}
use Rattle.jtree.specs.Reads.{most_bytes}
use Rattle.jtree.specs.ReadsWith.{ReadsWith, IsNoDocumentWith}
use Rattle.jtree.specs.View.{data_of}
use Rattle.jtree.specs.declared.value.Tree.{Tree}
use Rattle.jtree.specs.declared.fault.JFault.TheVariants as f
use Rattle.crdx.specs.Program.Documents.{Lines, AreLinesAmong}
use Rattle.crdx.specs.Program.Envelope.{body_of}
use Rattle.crdx.specs.Program.InputFault.{IsLineFault, failures_after_read}
use Rattle.crdx.specs.Program.Objects.{AreRead, AreDocuments, on_lines, over_lines, AreObjects, none, more, text_of_lines, IsRefused, HasInput}
use Rattle.crdx.specs.Program.CommandLine.{input_of}
use Rattle.crdx.specs.Internal.Cause.{IsObjectInputCause, HasComing}
use Rattle.crdx.specs.Internal.LineProgress.{cause_of_line}
use Rattle.crdx.specs.Internal.ObjectInputs.{AreAdded, AddsLines, AddsSoFar, AddsText, IsTextSoFar, IsBrokenLine, IsLaterCause, IsTextCause, IsRefusedText, cause_of_text}
use Rattle.crdx.specs.declared.inputs.InFault.{InFault}
use Rattle.crdx.specs.declared.inputs.InFault.TheVariants.{Failed, Document}
use Rattle.crdx.specs.declared.running.causes.Input.TheVariants as input
use Rattle.crdx.specs.declared.running.causes.Cause.{Cause}
use Rattle.crdx.specs.declared.running.causes.Cause.TheVariants as cause
use Rattle.crdx.proofs.RunLemmas.{failed_once}
use Rattle.jtree.specs.declared.read_with.Numbers.{Numbers}
use Rattle.jtree.specs.declared.read_with.Numbers.TheVariants.{Integers, All}

-- what is too long is no document, whatever numbers are read
pub too_long_with : (numbers : Numbers) (bytes : List ℕ) → most_bytes < length bytes → IsNoDocumentWith numbers bytes f.TooLong
too_long_with Integers bytes long = long
too_long_with All bytes long = long

-- ---- the text of lines

pub text_more : (first : List ℕ) (lines : List (List ℕ)) (line : List ℕ) → text_of_lines (first ∷ (lines ++ line ∷ [])) ≡ text_of_lines (first ∷ lines) ++ newline ∷ line
text_more first [] line = refl
text_more first (l ∷ lines) line =
    ap (λ t. first ++ newline ∷ t) (text_more l lines line) ∙ sym (append_assoc first (newline ∷ text_of_lines (l ∷ lines)) (newline ∷ line))

-- a text with more lines is no shorter
text_longer : (first : List ℕ) (lines rest : List (List ℕ)) → length (text_of_lines (first ∷ lines)) ≤ length (text_of_lines (first ∷ (lines ++ rest)))
text_longer first lines [] = subst (λ ls. length (text_of_lines (first ∷ lines)) ≤ length (text_of_lines (first ∷ ls))) (sym (append-nil lines)) (omega arith)
text_longer first lines (r ∷ rest) =
    let next = subst (λ ls. length (text_of_lines (first ∷ (lines ++ r ∷ []))) ≤ length (text_of_lines (first ∷ ls))) (append_assoc lines (r ∷ []) rest) (text_longer first (lines ++ r ∷ []) rest) in
    let grown : length (text_of_lines (first ∷ (lines ++ r ∷ []))) ≡ length (text_of_lines (first ∷ lines)) + length (newline ∷ r) =
    ap length (text_more first lines r) ∙ length-append (text_of_lines (first ∷ lines)) (newline ∷ r) in
    omega (arith, next, grown)

-- and no shorter than one of them
text_has : (first : List ℕ) (lines : List (List ℕ)) (line : List ℕ) (rest : List (List ℕ)) → length line ≤ length (text_of_lines (first ∷ (lines ++ line ∷ rest)))
text_has first lines line rest =
    let next = subst (λ ls. length (text_of_lines (first ∷ (lines ++ line ∷ []))) ≤ length (text_of_lines (first ∷ ls))) (append_assoc lines (line ∷ []) rest) (text_longer first (lines ++ line ∷ []) rest) in
    let grown : length (text_of_lines (first ∷ (lines ++ line ∷ []))) ≡ length (text_of_lines (first ∷ lines)) + suc (length line) =
    ap length (text_more first lines line) ∙ length-append (text_of_lines (first ∷ lines)) (newline ∷ line) in
    omega (arith, next, grown)

first_within : (first : List ℕ) (rest : List (List ℕ)) → length first ≤ length (text_of_lines (first ∷ rest))
first_within first rest = text_longer first [] rest

-- ---- objects

pub added_both : (ds es : List Data) (old now later : List Tree) → AreAdded ds old now → AreAdded es now later → AreAdded (ds ++ es) old later
added_both ds es old now later first second =
    second ∙ ap (λ os. os ++ map body_of es) first ∙ append_assoc (map data_of old) (map body_of ds) (map body_of es) ∙ ap (λ os. map data_of old ++ os) (sym (map-append body_of ds es))

read_more : (numbers : Numbers) (lines : List (List ℕ)) (ds : List Data) (line : List ℕ) (d : Data) → AreRead numbers lines ds → ReadsWith numbers line d → AreRead numbers (lines ++ line ∷ []) (ds ++ d ∷ [])
read_more numbers [] [] line d are is = (is, tt)
read_more numbers [] (e ∷ ds) line d are is = absurd are
read_more numbers (l ∷ lines) [] line d are is = absurd are
read_more numbers (l ∷ lines) (e ∷ ds) line d are is = (are.0, read_more numbers lines ds line d are.1 is)

-- ---- a document on each line

module _ (numbers : Numbers) (first now : List (List ℕ) → Type 0) (count : ℕ) (old new : List Tree) (s : AddsSoFar numbers first now count old new) where
  pub all_added : now [] → AddsLines numbers first old new
  all_added end = record { lines = s.lines; are = subst first (append-nil s.lines) (s.after [] end); documents = s.documents; read = s.read; added = s.added }

  -- why the line after them was not read
  pub later_unread : (later : List (List ℕ) → Type 0) (some : (lines : List (List ℕ)) × later lines) (unread read : ℕ) (fault : InFault) → read ≡ failures_after_read {T = Bool} unread (Err fault) → IsLineFault now later fault
      → IsLaterCause numbers first unread read (cause_of_line (count + 1) fault)
  later_unread later some unread read Failed counts why = failed_once unread read counts
  later_unread later some unread read (Document f.NoMemory) counts why = tt
  later_unread later some unread read (Document f.TooLong) counts h = (
    (λ e. cc, λ e. cc),
    record {
      before = s.lines;
      documents = s.documents;
      line = h.line;
      after = some.0;
      are = s.after (h.line ∷ some.0) (h.takes some.0 some.1);
      read = s.read;
      number_is = omega (arith, s.counted);
      no_document = too_long_with numbers h.line h.long;
    },
  )
  later_unread later some unread read (Document f.NotAnInteger) counts why = absurd why
  later_unread later some unread read (Document f.NotJson) counts why = absurd why
  later_unread later some unread read (Document f.ReadFailed) counts why = absurd why

  module _ (line : List ℕ) (next : List (List ℕ) → Type 0) (takes : (rest : List (List ℕ)) → next rest → now (line ∷ rest)) where
    pub added_line : (d : Data) (later : List Tree) → ReadsWith numbers line d → AreAdded (d ∷ []) new later → AddsSoFar numbers first next (count + 1) old later
    added_line d later is added = record {
      lines = s.lines ++ line ∷ [];
      after = λ rest come. subst first (sym (append_assoc s.lines (line ∷ []) rest)) (s.after (line ∷ rest) (takes rest come));
      documents = s.documents ++ d ∷ [];
      read = read_more numbers s.lines s.documents line d s.read is;
      counted = omega (arith, s.counted, length-append s.lines (line ∷ []));
      added = added_both s.documents (d ∷ []) old new later s.added added;
    }

    -- the line is no document, or memory ran out
    pub later_broken : (some : (rest : List (List ℕ)) × next rest) (unread read : ℕ) (why : Cause) → IsBrokenLine numbers (count + 1) line why → IsLaterCause numbers first unread read why
    later_broken some unread read (cause.Line n fault) (same, ofbytes, is) = (
      ofbytes,
      record {
        before = s.lines;
        documents = s.documents;
        line = line;
        after = some.0;
        are = s.after (line ∷ some.0) (takes some.0 some.1);
        read = s.read;
        number_is = omega (arith, same, s.counted);
        no_document = is;
      },
    )
    later_broken some unread read cause.NoMemory is = tt
    later_broken some unread read _ is = absurd is

pub none_added : (numbers : Numbers) (first : List (List ℕ) → Type 0) (old : List Tree) → AddsSoFar numbers first first 1 old old
none_added numbers first old = record { lines = []; after = λ rest come. come; documents = []; read = tt; counted = refl; added = sym (append-nil (map data_of old)) }

-- ---- one document over all lines

module _ (numbers : Numbers) (before now : List (List ℕ) → Type 0) (first text : List ℕ) (s : IsTextSoFar before now first text) where
  pub text_added : (old new : List Tree) (d : Data) → now [] → ReadsWith numbers text d → AreAdded (d ∷ []) old new → AddsText numbers before first old new
  text_added old new d end is added = record {
    lines = s.lines;
    are = subst before (append-nil s.lines) (s.after [] end);
    document = d;
    reads = subst (λ t. ReadsWith numbers t d) s.is is;
    added = added;
  }

  pub text_refused : (unread read : ℕ) (why : Cause) → now [] → IsRefusedText numbers text why → IsTextCause numbers before first unread read why
  text_refused unread read (cause.Document i fault) end (ofbytes, is) = (ofbytes, s.lines, subst before (append-nil s.lines) (s.after [] end), subst (λ t. IsNoDocumentWith numbers t fault) s.is is)
  text_refused unread read cause.NoMemory end is = tt
  text_refused unread read _ end is = absurd is

  pub text_unread : (later : List (List ℕ) → Type 0) (some : (lines : List (List ℕ)) × later lines) (unread read : ℕ) (fault : InFault) → read ≡ failures_after_read {T = Bool} unread (Err fault) → IsLineFault now later fault → IsTextCause numbers before first unread read (cause_of_text fault)
  text_unread later some unread read Failed counts why = failed_once unread read counts
  text_unread later some unread read (Document f.NoMemory) counts why = tt
  text_unread later some unread read (Document f.TooLong) counts h =
      let longer = text_has first s.lines h.line some.0 in
      ((λ e. cc, λ e. cc), s.lines ++ h.line ∷ some.0, s.after (h.line ∷ some.0) (h.takes some.0 some.1), too_long_with numbers (text_of_lines (first ∷ (s.lines ++ h.line ∷ some.0))) (omega (arith, h.long, longer)))
  text_unread later some unread read (Document f.NotAnInteger) counts why = absurd why
  text_unread later some unread read (Document f.NotJson) counts why = absurd why
  text_unread later some unread read (Document f.ReadFailed) counts why = absurd why

  -- what was read is too long already
  pub text_too_long : (unread read : ℕ) (some : (rest : List (List ℕ)) × now rest) → most_bytes < length text → IsTextCause numbers before first unread read (cause.Document input.Object f.TooLong)
  text_too_long unread read some long =
      let longer = text_longer first s.lines some.0 in
      let same : length text ≡ length (text_of_lines (first ∷ s.lines)) = ap length s.is in
      ((λ e. cc, λ e. cc), s.lines ++ some.0, s.after some.0 some.1, too_long_with numbers (text_of_lines (first ∷ (s.lines ++ some.0))) (omega (arith, long, longer, same)))

  pub text_so_far : (line : List ℕ) (next : List (List ℕ) → Type 0) → ((rest : List (List ℕ)) → next rest → now (line ∷ rest)) → IsTextSoFar before next first (text ++ newline ∷ line)
  text_so_far line next takes = record {
    lines = s.lines ++ line ∷ [];
    after = λ rest come. subst before (sym (append_assoc s.lines (line ∷ []) rest)) (s.after (line ∷ rest) (takes rest come));
    is = ap (λ t. t ++ newline ∷ line) s.is ∙ sym (text_more first s.lines line);
  }

pub no_text : (before : List (List ℕ) → Type 0) (first : List ℕ) → IsTextSoFar before before first first
no_text before first = record { lines = []; after = λ rest come. come; is = refl }

-- ---- both, after the first line

module _ (numbers : Numbers) (coming later : List (List ℕ) → Type 0) (line : List ℕ) (takes : (rest : List (List ℕ)) → later rest → coming (line ∷ rest)) where
  abbrev AreAdding : List Tree → List Tree → Type 0
  AreAdding old new = (ls : List (List ℕ)) × coming ls × (ds : List Data) × AreDocuments numbers ls ds × AreAdded ds old new

  pub lines_added : (old now new : List Tree) (d : Data) → ReadsWith numbers line d → AreAdded (d ∷ []) old now → AddsLines numbers later now new → AreAdding old new
  lines_added old now new d is added rest =
      (line ∷ rest.lines, takes rest.lines rest.are, d ∷ rest.documents, on_lines line rest.lines (d ∷ rest.documents) (is, rest.read), added_both (d ∷ []) rest.documents old now new added rest.added)

  pub later_cause : (unread read : ℕ) (d : Data) (why : Cause) → ReadsWith numbers line d → IsLaterCause numbers later unread read why → IsObjectInputCause numbers (HasComing coming) unread read why
  later_cause unread read d (cause.Read i) is why = why
  later_cause unread read d (cause.Line number fault) is (ofbytes, b) = (
    ofbytes,
    (
      line ∷ (b.before ++ b.line ∷ b.after),
      takes _ b.are,
      record {
        before = line ∷ b.before;
        documents = d ∷ b.documents;
        line = b.line;
        after = b.after;
        is = refl;
        some = λ e. cc;
        read = (is, b.read);
        number_is = omega (arith, b.number_is);
        no_document = b.no_document;
      },
    ),
  )
  later_cause unread read d cause.NoMemory is why = tt
  later_cause unread read d _ is why = absurd why

  module _ (none : IsRefused numbers line) where
    pub whole_added : (old new : List Tree) → AddsText numbers later line old new → AreAdding old new
    whole_added old new all = (line ∷ all.lines, takes all.lines all.are, all.document ∷ [], over_lines (line ∷ all.lines) all.document none all.reads, all.added)

    pub whole_cause : (unread read : ℕ) (why : Cause) → IsTextCause numbers later line unread read why → IsObjectInputCause numbers (HasComing coming) unread read why
    whole_cause unread read (cause.Read i) why = why
    whole_cause unread read (cause.Document i fault) (ofbytes, ls, are, is) = (ofbytes, (line ∷ ls, takes ls are, (none, is)))
    whole_cause unread read cause.NoMemory why = tt
    whole_cause unread read _ why = absurd why

module _ (numbers : Numbers) (coming : List (List ℕ) → Type 0) where
  -- there is no line
  pub nothing_added : (old new : List Tree) (d : Data) → coming [] → ReadsWith numbers [] d → AreAdded (d ∷ []) old new
      → (ls : List (List ℕ)) × coming ls × (ds : List Data) × AreDocuments numbers ls ds × AreAdded ds old new
  nothing_added old new d end is added = ([], end, d ∷ [], over_lines [] d tt is, added)

  pub nothing_refused : (unread read : ℕ) (why : Cause) → coming [] → IsRefusedText numbers [] why → IsObjectInputCause numbers (HasComing coming) unread read why
  nothing_refused unread read (cause.Document i fault) end (ofbytes, is) = (ofbytes, ([], end, (tt, is)))
  nothing_refused unread read cause.NoMemory end is = tt
  nothing_refused unread read _ end is = absurd is

  -- why the first line was not read
  pub first_unread : (later : List (List ℕ) → Type 0) (some : (lines : List (List ℕ)) × later lines) (unread read : ℕ) (fault : InFault) → read ≡ failures_after_read {T = Bool} unread (Err fault) → IsLineFault coming later fault
      → IsObjectInputCause numbers (HasComing coming) unread read (cause_of_text fault)
  first_unread later some unread read Failed counts why = failed_once unread read counts
  first_unread later some unread read (Document f.NoMemory) counts why = tt
  first_unread later some unread read (Document f.TooLong) counts h =
      let within = first_within h.line some.0 in
      ((λ e. cc, λ e. cc), (h.line ∷ some.0, h.takes some.0 some.1, ((f.TooLong, (λ e. cc, λ e. cc), too_long_with numbers h.line h.long), too_long_with numbers (text_of_lines (h.line ∷ some.0)) (omega (arith, h.long, within)))))
  first_unread later some unread read (Document f.NotAnInteger) counts why = absurd why
  first_unread later some unread read (Document f.NotJson) counts why = absurd why
  first_unread later some unread read (Document f.ReadFailed) counts why = absurd why

-- why an input has no documents, of lines that were at hand before
pub input_cause_as : (numbers : Numbers) (Has Also : (List (List ℕ) → Type 0) → Type 0) → ((Is : List (List ℕ) → Type 0) → Has Is → Also Is) → (unread read : ℕ) (why : Cause) → IsObjectInputCause numbers Has unread read why
    → IsObjectInputCause numbers Also unread read why
input_cause_as numbers Has Also also unread read (cause.Read i) why = why
input_cause_as numbers Has Also also unread read (cause.Document i fault) why = (why.0, also _ why.1)
input_cause_as numbers Has Also also unread read (cause.Line number fault) why = (why.0, also _ why.1)
input_cause_as numbers Has Also also unread read cause.NoMemory why = tt
input_cause_as numbers Has Also also unread read _ why = absurd why

-- a word is one of those that there are
pub word_among : (words : List (Bor (List ℕ))) (i : ℕ) (d : Bor (List ℕ)) → i < length words → Contains (map (λ w. w.now) words) (get_or words i d).now
word_among words i d below =
    let within : i < length (map (λ w. w.now) words) = subst (λ n. i < n) (sym (length-map words (λ w. w.now))) below in
    subst (Contains (map (λ w. w.now) words)) (get_or-map (λ w. w.now) words i d [] below) (Contains-get_or (map (λ w. w.now) words) i [] within)

module _ (numbers : Numbers) (at_hand later : Lines) (among : AreLinesAmong later at_hand) where
  -- why the input of a word has no documents
  pub word_cause : (words : List (Bor (List ℕ))) (i : ℕ) (d : Bor (List ℕ)) → i < length words → (unread now read : ℕ) (why : Cause) → now ≡ unread
      → IsObjectInputCause numbers (HasComing (later (input_of (get_or words i d).now))) now read why → IsObjectInputCause numbers (HasInput at_hand (map (λ w. w.now) words)) unread read why
  word_cause words i d below unread now read why same is =
      let word = (get_or words i d).now in
      subst (λ n. IsObjectInputCause numbers (HasInput at_hand (map (λ w. w.now) words)) n read why) same
      (input_cause_as numbers (HasComing (later (input_of word))) (HasInput at_hand (map (λ w. w.now) words)) (λ Is has. (word, word_among words i d below, has.0, among (input_of word) has.0 has.1, has.2)) now read why is)

  -- the objects of one input more
  pub word_added : (words : List (Bor (List ℕ))) (i : ℕ) (d : Bor (List ℕ)) (old new : List Tree) → i < length words → AreObjects numbers at_hand (map (λ w. w.now) (take i words)) (map data_of old)
      → (ls : List (List ℕ)) × later (input_of (get_or words i d).now) ls × (ds : List Data) × AreDocuments numbers ls ds × AreAdded ds old new → AreObjects numbers at_hand (map (λ w. w.now) (take (i + 1) words)) (map data_of new)
  word_added words i d old new below before (ls, at, ds, are, added) =
      let named : map (λ w. w.now) (take (i + 1) words) ≡ map (λ w. w.now) (take i words) ++ (get_or words i d).now ∷ [] =
      ap (map (λ w. w.now)) (take_more words i d below) ∙ map-append (λ w. w.now) (take i words) (get_or words i d ∷ []) in
      subst (λ ws. AreObjects numbers at_hand ws (map data_of new)) (sym named) (subst (AreObjects numbers at_hand (map (λ w. w.now) (take i words) ++ (get_or words i d).now ∷ [])) (sym added)
      (more (map (λ w. w.now) (take i words)) (map data_of old) (get_or words i d).now ls ds before (among (input_of (get_or words i d).now) ls at) are))

-- objects of inputs that were at hand before
pub objects_before : (numbers : Numbers) (at_hand later : Lines) → AreLinesAmong later at_hand → (words : List (List ℕ)) (os : List Data) → AreObjects numbers later words os → AreObjects numbers at_hand words os
objects_before numbers at_hand later among _ _ none = none
objects_before numbers at_hand later among _ _ (more words os word ls ds before at are) = more words os word ls ds (objects_before numbers at_hand later among words os before) (among (input_of word) ls at) are

pub inputs_before : (at_hand later : Lines) → AreLinesAmong later at_hand → (words : List (List ℕ)) (Is : List (List ℕ) → Type 0) → HasInput later words Is → HasInput at_hand words Is
inputs_before at_hand later among words Is (word, is, ls, at, so) = (word, is, ls, among (input_of word) ls at, so)
