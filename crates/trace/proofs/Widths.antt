-- Which calls have arguments of their widths: of each kind that fits, of each argument that is too wide, and of each that is
-- narrower than a word in a call that fits.
use Prim.Native.Nat.{ℕ, ◌^◌, ◌≤◌, ◌<◌}
use mathlib.Core.Path.{◌≡◌}
use mathlib.Core.Bool.{true, false, ◌&&◌, and-false}
use mathlib.Core.List.{List}
use native.Mathlib.Omega.{arith}
use lib.Dec.{ltb}
use lib.ListN.{get_or, drop}
use lib.Seq.{get_or-drop}
use borrow.Author.Tests.{ltb-true}
use Rattle.words.proofs.Check.{and_left, and_right}
use Rattle.rules.specs.Table.{all}
use Rattle.rules.specs.State.{Id, StoredMessage, Pair, Kind}
use Rattle.rules.specs.Valid.{is_byte, is_word, valid_id}
use Rattle.rules.specs.Commands.Target.{start, to_id}
use Rattle.rules.specs.Calls.{fits, target_fits}
use Rattle.rules.specs.Calls.Call.{Append, Subscribe, Flow, Seek}
use Rattle.layout.proofs.Slices.{byte_over, byte_fits, count_over, count_fits, word, all_words}

-- a byte
byte_in : (n : ℕ) → is_byte n ≡ true → n ≤ 255
unfolding is_byte
byte_in n h = let l = ltb-true n 256 h in omega arith

-- ---- append

-- with a byte and four words
pub append_fits : (topic : ℕ) (m : StoredMessage) → topic ≤ 255 → m.id.ledger < 2 ^ 64 → m.id.entry < 2 ^ 64 → m.handle < 2 ^ 64
    → m.batch_size < 2 ^ 64 → fits (Append topic m) ≡ true
unfolding fits valid_id
append_fits topic m t l e h b =
    rw (byte_fits topic t, word m.id.ledger l, word m.id.entry e, word m.handle h, word m.batch_size b)

-- its topic is too wide
pub append_wide : (topic : ℕ) (m : StoredMessage) → 255 < topic → fits (Append topic m) ≡ false
unfolding fits
append_wide topic m h = rw (byte_over topic h)

-- its topic is a byte
pub append_byte : (topic : ℕ) (m : StoredMessage) → fits (Append topic m) ≡ true → topic ≤ 255
unfolding fits
append_byte topic m h =
    byte_in topic
    (and_left (is_byte topic) (valid_id m.id)
    (and_left (is_byte topic && valid_id m.id) (is_word m.handle)
    (and_left (is_byte topic && valid_id m.id && is_word m.handle) (is_word m.batch_size) h)))

-- ---- subscribe

module _ (i : ℕ) (kind : Kind) (p : Pair) where
  -- with a word and two bytes
  pub subscribe_fits : i < 2 ^ 64 → p.topic ≤ 255 → p.subscription ≤ 255 → fits (Subscribe i kind p) ≡ true
  unfolding fits
  subscribe_fits h t s = rw (word i h, byte_fits p.topic t, byte_fits p.subscription s)

  -- its topic is too wide
  pub topic_wide : 255 < p.topic → fits (Subscribe i kind p) ≡ false
  unfolding fits
  topic_wide h = rw (byte_over p.topic h, and-false (is_word i))

  -- its subscription is
  pub subscription_wide : 255 < p.subscription → fits (Subscribe i kind p) ≡ false
  unfolding fits
  subscription_wide h = rw (byte_over p.subscription h, and-false (is_word i && is_byte p.topic))

  -- its topic is a byte
  pub topic_byte : fits (Subscribe i kind p) ≡ true → p.topic ≤ 255
  unfolding fits
  topic_byte h =
      byte_in p.topic (and_right (is_word i) (is_byte p.topic) (and_left (is_word i && is_byte p.topic) (is_byte p.subscription) h))

  -- so is its subscription
  pub subscription_byte : fits (Subscribe i kind p) ≡ true → p.subscription ≤ 255
  unfolding fits
  subscription_byte h = byte_in p.subscription (and_right (is_word i && is_byte p.topic) (is_byte p.subscription) h)

-- ---- flow

-- with a word and 32 bits
pub flow_fits : (i grant : ℕ) → i < 2 ^ 64 → grant ≤ 0xffff_ffff → fits (Flow i grant) ≡ true
unfolding fits
flow_fits i grant h g = rw (word i h, count_fits grant g)

-- its grant is too wide
pub grant_wide : (i grant : ℕ) → 0xffff_ffff < grant → fits (Flow i grant) ≡ false
unfolding fits
grant_wide i grant h = rw (count_over grant h, and-false (is_word i))

-- its grant has 32 bits
pub grant_count : (i grant : ℕ) → fits (Flow i grant) ≡ true → grant ≤ 0xffff_ffff
unfolding fits
grant_count i grant h = let l = ltb-true grant (2 ^ 32) (and_right (is_word i) (ltb grant (2 ^ 32)) h) in omega arith

-- ---- seek

-- of a word to the start
pub start_fits : (i : ℕ) → i < 2 ^ 64 → fits (Seek i start) ≡ true
unfolding fits target_fits
start_fits i h = rw (word i h)

-- of a word to an id
pub id_fits : (i : ℕ) (to : Id) → i < 2 ^ 64 → to.ledger < 2 ^ 64 → to.entry < 2 ^ 64 → fits (Seek i (to_id to)) ≡ true
unfolding fits target_fits valid_id
id_fits i to h l e = rw (word i h, word to.ledger l, word to.entry e)

-- ---- ack and redeliver

-- the first word, and the others
pub list_fits : (ws : List ℕ) → ((k : ℕ) → get_or ws k 0 < 2 ^ 64) → is_word (get_or ws 0 0) && all is_word (drop 1 ws) ≡ true
list_fits ws h = rw (word (get_or ws 0 0) (h 0), all_words (drop 1 ws) (λ k. rw (get_or-drop 1 ws k 0) (h _)))
