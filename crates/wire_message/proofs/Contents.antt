-- The content of a Message by what the code read of it: the id of its own bytes in place of the id's fields, the ack words counted
-- before they are laid, and what a content that was read says of them.
use Prim.Native.Nat.{ℕ, ◌≤◌}
use mathlib.Core.Path.{◌≡◌, refl, sym, ◌∙◌}
use mathlib.Core.List.{List, map}
use mathlib.Core.Option
use mathlib.Core.Option.{Option, none, some, bind, map-eq-some_iff, none-ne-some}
use lib.ListN.{length, length-map}
use Rattle.rules.specs.State.{Id}
use Rattle.rules.specs.Table.{or_else}
use Rattle.wire.specs.Fields.{Field, fields}
use Rattle.wire.specs.Select.{numbered, uint64, uint32, count, required, optional, part, bytes_of, up_to, numbers}
use Rattle.wire.specs.Ids.{id_of}
use Rattle.wire.specs.Message.{Message, content_of}
use Rattle.wire.proofs.Ids.{numbers_length, up_to_is}
use Rattle.wire.proofs.Options.{bind_same, gives_some, gives_bind}
use Rattle.std.specs.Prelude.{Some, None}
use Rattle.std.specs.Prelude as code
use Rattle.wire_fields.specs.Found.{answered, as_is}
use Rattle.wire_fields.specs.Selected.{at_most}
use Rattle.wire_fields.specs.Values.{all_of, values, values_of}
use Rattle.wire_fields.specs.declared.pick.Seen.{Seen}
use Rattle.wire_fields.proofs.Answered.{from_some}
use Rattle.wire_fields.proofs.Selections.{Saw, several_is, several_bad}
use Rattle.wire_message.specs.Found.{batch_id, id_of_bytes, ack_count, head_of}
use Rattle.wire_message.specs.declared.content.BatchId.{BatchId}
use Rattle.wire_message.specs.declared.content.Head.{Head}

-- ---- the id

-- a chain that goes on after a chain
bind_assoc : {A B C : Type 0} (o : Option A) (f : A → Option B) (g : B → Option C) → bind (bind o f) g ≡ bind o (λ (a : A). bind (f a) g)
unfolding bind
bind_assoc none f g = refl
bind_assoc (some a) f g = refl

-- what goes on after an id's fields goes on after the id of its bytes
id_then : {A : Type 0} (m : List ℕ) (go_on : BatchId → Option A)
    → bind (fields m) (λ (ids : List Field).
    bind (id_of ids) (λ (id : Id).
    bind (optional count (numbered 6 ids)) (λ (size : ℕ). go_on (batch_id id size))))
    ≡ bind (id_of_bytes m) go_on
unfolding id_of_bytes bind
id_then m go_on =
    sym
    (bind_assoc (fields m) _ go_on
    ∙ bind_same (fields m) _ _
    (λ ids _. bind_assoc (id_of ids) _ go_on
    ∙ bind_same (id_of ids) _ _ (λ id _. bind_assoc (optional count (numbered 6 ids)) _ go_on)))

-- ---- the content

-- the Message of what was read
abbrev pub message_with : ℕ → BatchId → ℕ → List ℕ → Message
message_with consumer id redelivery_count words =
    record {
      consumer = consumer;
      id = record { ledger = id.ledger; entry = id.entry };
      batch_size = id.batch_size;
      redelivery_count = redelivery_count;
      ack_set = words;
    }

-- the content with the id of its own bytes
pub content_by_id : (m : List ℕ)
    → content_of m
    ≡ bind (fields m) (λ (fs : List Field).
    bind (required uint64 (numbered 1 fs)) (λ (consumer : ℕ).
    bind (part (numbered 2 fs)) (λ (of_id : Field).
    bind (id_of_bytes (bytes_of m of_id)) (λ (id : BatchId).
    bind (optional uint32 (numbered 3 fs)) (λ (redelivery_count : ℕ).
    bind (numbers 4 (numbered 4 fs)) (λ (words : List ℕ).
    some (message_with consumer id redelivery_count words)))))))
unfolding content_of
content_by_id m =
    bind_same (fields m) _ _
    (λ fs e. bind_same (required uint64 (numbered 1 fs)) _ _
    (λ consumer q. bind_same (part (numbered 2 fs)) _ _
    (λ of_id p. id_then (bytes_of m of_id)
    (λ (id : BatchId). bind (optional uint32 (numbered 3 fs)) (λ (redelivery_count : ℕ).
    bind (numbers 4 (numbered 4 fs)) (λ (words : List ℕ).
    some (message_with consumer id redelivery_count words)))))))

-- there is a content, and these are its numbers
pub record Contained (m : List ℕ) (h : Head) : Type 0 where
  pub x : Message
  pub is : content_of m ≡ some x
  pub same : h ≡ head_of x

-- what the code read is the content's numbers
pub told_content : (m : List ℕ) (h : Head) → Some h ≡ answered head_of (content_of m) → Contained m h
told_content m h e = let t = from_some head_of (content_of m) e in record { x = t.x; is = t.is; same = t.same }

-- ---- ack words

-- a message's fields of a number, at most some, counted
pub several_count : (k : ℕ) → k ≤ 64 → {wire : ℕ} {l : List Field} {s : Seen} → Saw wire l s
    → at_most k s ≡ answered as_is (Option.map length (up_to k wire l))
unfolding answered
several_count k few {wire = wire} {l = l} {s = s} w = go (at_most k s) refl
  where
    go : (n : code.Option ℕ) → n ≡ at_most k s → n ≡ answered as_is (Option.map length (up_to k wire l))
    go (Some n) e = let p = several_is k few w e in rw (p.0, p.1)
    go None e = rw (several_bad k few w e)

module _ (m : List ℕ) (fs : List Field) (e : fields m ≡ some fs) where
  -- the words that were counted
  pub words_are : (n : ℕ) → ack_count m ≡ some n → (numbers 4 (numbered 4 fs) ≡ some (values 4 fs)) × (n ≡ length (values 4 fs))
  unfolding ack_count bind numbers values
  words_are n h =
      let p = (map-eq-some_iff length (up_to 4 0 (numbered 4 fs))).0 (rw e at h) in
      let s = sym (up_to_is 4 0 (numbered 4 fs) p.0 p.1) in
      (rw (p.1, s), sym p.2 ∙ rw (s, length-map))

  -- too many, or one of another wire type
  pub no_words : ack_count m ≡ none → numbers 4 (numbered 4 fs) ≡ none
  unfolding ack_count bind numbers
  no_words h = go (up_to 4 0 (numbered 4 fs)) (rw e at h)
    where
      go : (o : Option (List Field)) → Option.map length o ≡ none → Option.map (map (λ (f : Field). f.value)) o ≡ none
      go none q = refl
      go (some l) q = absurd (none-ne-some (length l) (sym q))

-- a content's words: the message is well formed, they are its fields of the number, and at most 4
pub record Worded (m : List ℕ) (x : Message) : Type 0 where
  pub formed : fields m ≡ some (all_of m)
  pub are : x.ack_set ≡ values_of m 4
  pub few : length x.ack_set ≤ 4

-- words that were answered are
worded : (m : List ℕ) (fs : List Field) (x : Message) → fields m ≡ some fs → numbers 4 (numbered 4 fs) ≡ some x.ack_set → Worded m x
unfolding numbers all_of values_of values or_else
worded m fs x e w =
    let p = (map-eq-some_iff (map (λ (f : Field). f.value)) (up_to 4 0 (numbered 4 fs))).0 w in
    let s = sym (up_to_is 4 0 (numbered 4 fs) p.0 p.1) in
    record { formed = rw e; are = sym p.2 ∙ rw (e, s); few = numbers_length 4 (numbered 4 fs) x.ack_set w }

-- so are those of every content that was read
pub content_words : (m : List ℕ) (x : Message) → content_of m ≡ some x → Worded m x
unfolding content_of
content_words m =
    gives_bind (Worded m) _ _ (λ fs e.
    gives_bind (Worded m) _ _ (λ consumer _.
    gives_bind (Worded m) _ _ (λ of_id _.
    gives_bind (Worded m) _ _ (λ ids _.
    gives_bind (Worded m) _ _ (λ id _.
    gives_bind (Worded m) _ _ (λ batch_size _.
    gives_bind (Worded m) _ _ (λ redelivery_count _.
    gives_bind (Worded m) _ _ (λ words w.
    gives_some (Worded m) _ (worded m fs _ e w)))))))))
