-- What stands behind a command that was read: a type that is taken, a part of the input with the type's number, and the
-- command in that part's bytes. So what holds of every command that a part can have holds of every command that is read.
use Prim.Native.Nat.{ℕ}
use mathlib.Core.Path.{◌≡◌, refl, ap, ◌∙◌}
use mathlib.Core.Bool.{Bool, true, false, cond}
use mathlib.Core.List.{List}
use mathlib.Core.Option.{Option, none, some, map-eq-some_iff, bind-eq-some_iff}
use native.Mathlib.Omega.{arith}
use lib.Dec.{eqb}
use Rattle.rules.specs.State.{Kind}
use Rattle.rules.specs.Groups.{Group}
use Rattle.rules.specs.Commands.{Target}
use Rattle.wire.specs.Fields.{Field}
use Rattle.wire.specs.Select.{numbered, bytes_of}
use Rattle.wire.specs.Commands.{Command, Reading, SUBSCRIBE, ACK, FLOW, CLOSE_CONSUMER, REDELIVER, SEEK, or_16, type_of, message_of, base, name}
use Rattle.wire.specs.Commands.{subscribe_of, flow_of, ack_of, seek_of, redeliver_of, close_of, command_of, command}
use Rattle.wire.specs.Commands.Command.{Subscribe, Flow, Ack, Seek, Redeliver, Close}
use Rattle.wire.specs.Commands.Reading.{refused, read}
use Rattle.wire.proofs.Options.{Gives, gives_some, gives_bind, gives_cond, gives_none}
use Rattle.wire.proofs.Fields.{In, part_lies}
use Rattle.wire.proofs.Ids.{Listed, ids_listed}

-- ---- the part behind a reading

-- what is read where 16 would be answered otherwise was read
or_16_read : {A : Type 0} (o : Option (Reading A)) (a : A) → or_16 o ≡ read a → o ≡ some (read a)
unfolding or_16
or_16_read none a e = let z : ◌≡◌ {A = ℕ} 0 1 = cc in absurd (omega arith)
or_16_read (some r) a e = rw e

-- what is read where 17 would be answered otherwise was taken
taken_read : {A : Type 0} (t : Bool) (o : Option (Reading A)) (a : A) → cond t o (some (refused 17)) ≡ some (read a)
    → (t ≡ true) × (o ≡ some (read a))
taken_read true o a e = (refl, e)
taken_read false o a e = let z : ◌≡◌ {A = ℕ} 0 1 = cc in absurd (omega arith)

-- the message of a type lies inside the input
pub message_lies : (m : List ℕ) (type : ℕ) → Gives (In m) (message_of m type)
unfolding message_of
message_lies m type = gives_bind (In m) _ _ (λ fs e f p. part_lies m fs type f e p)

-- what stands behind a reading: its type, and its message in a part of the input
pub record Behind {A : Type 0} (takes : ℕ → Bool) (content : ℕ → Field → Option A) (m : List ℕ) (a : A) : Type 0 where
  pub type : ℕ
  pub place : Field
  pub typed : type_of m ≡ some type
  pub taken : takes type ≡ true
  pub there : message_of m type ≡ some place
  pub inside : In m place
  pub says : content type place ≡ some a

-- every reading has these
pub behind : {A : Type 0} (takes : ℕ → Bool) (content : ℕ → Field → Option A) (m : List ℕ) (a : A) → base takes content m ≡ read a
    → Behind takes content m a
unfolding base
behind takes content m a e =
    let p = (bind-eq-some_iff (type_of m) _).0 (or_16_read _ a e) in
    let q = taken_read (takes p.0) _ a p.2 in
    let r = (bind-eq-some_iff (message_of m p.0) _).0 q.1 in
    let s = (map-eq-some_iff read (content p.0 r.0)).0 r.2 in
    let b : s.0 ≡ a = cc in
    record {
      type = p.0;
      place = r.0;
      typed = p.1;
      taken = q.0;
      there = r.1;
      inside = message_lies m p.0 r.0 r.1;
      says = s.1 ∙ ap some b;
    }

-- ---- what holds of every command

-- something holds of every command that a message at a place can have
pub record Holds (P : Command → Type 0) (at : ℕ) (m : List ℕ) : Type 0 where
  pub subscribes : (consumer request : ℕ) (kind : Kind) (topic subscription : Field) → In m topic → In m subscription
      → P (Subscribe consumer request kind (name at topic) (name at subscription))
  pub flows : (consumer permits : ℕ) → P (Flow consumer permits)
  pub acks : (consumer : ℕ) (ids : List Group) → Listed ids → P (Ack consumer ids)
  pub seeks : (consumer request : ℕ) (target : Target) → P (Seek consumer request target)
  pub redelivers : (consumer : ℕ) (ids : List Group) → Listed ids → P (Redeliver consumer ids)
  pub closes : (consumer request : ℕ) → P (Close consumer request)

module _ (P : Command → Type 0) (at : ℕ) (m : List ℕ) (h : Holds P at m) where
  -- of a Subscribe
  subscribe_gives : Gives P (subscribe_of at m)
  unfolding subscribe_of
  subscribe_gives =
      gives_bind P _ _ (λ fs e.
      gives_bind P _ _ (λ topic t.
      gives_bind P _ _ (λ subscription s.
      gives_bind P _ _ (λ sub_type _.
      gives_bind P _ _ (λ consumer _.
      gives_bind P _ _ (λ request _.
      gives_some P _ (h.subscribes _ _ _ topic subscription (part_lies m fs 1 topic e t) (part_lies m fs 2 subscription e s))))))))

  -- of a Flow
  flow_gives : Gives P (flow_of m)
  unfolding flow_of
  flow_gives =
      gives_bind P _ _ (λ fs _. gives_bind P _ _ (λ consumer _. gives_bind P _ _ (λ permits _. gives_some P _ (h.flows consumer permits))))

  -- of an Ack
  ack_gives : Gives P (ack_of m)
  unfolding ack_of
  ack_gives =
      gives_bind P _ _ (λ fs _.
      gives_bind P _ _ (λ consumer _.
      gives_bind P _ _ (λ ack_type _.
      gives_bind P _ _ (λ ids e. gives_some P _ (h.acks consumer ids (ids_listed m (numbered 3 fs) ids e))))))

  -- of a Seek
  seek_gives : Gives P (seek_of m)
  unfolding seek_of
  seek_gives =
      gives_bind P _ _ (λ fs _.
      gives_bind P _ _ (λ consumer _.
      gives_bind P _ _ (λ request _.
      gives_bind P _ _ (λ target _. gives_some P _ (h.seeks consumer request target)))))

  -- of a Redeliver
  redeliver_gives : Gives P (redeliver_of m)
  unfolding redeliver_of
  redeliver_gives =
      gives_bind P _ _ (λ fs _.
      gives_bind P _ _ (λ consumer _.
      gives_bind P _ _ (λ ids e. gives_some P _ (h.redelivers consumer ids (ids_listed m (numbered 2 fs) ids e)))))

  -- of a Close
  close_gives : Gives P (close_of m)
  unfolding close_of
  close_gives =
      gives_bind P _ _ (λ fs _. gives_bind P _ _ (λ consumer _. gives_bind P _ _ (λ request _. gives_some P _ (h.closes consumer request))))

  -- whatever the type
  of_gives : (type : ℕ) → Gives P (command_of type at m)
  unfolding command_of
  of_gives type =
      gives_cond P (eqb type SUBSCRIBE) _ _ subscribe_gives
      (gives_cond P (eqb type ACK) _ _ ack_gives
      (gives_cond P (eqb type FLOW) _ _ flow_gives
      (gives_cond P (eqb type CLOSE_CONSUMER) _ _ close_gives
      (gives_cond P (eqb type REDELIVER) _ _ redeliver_gives
      (gives_cond P (eqb type SEEK) _ _ seek_gives
      (gives_none P))))))

-- what holds of every command that a part of the input can have holds of the command that is read
pub command_gives : (P : Command → Type 0) (m : List ℕ) → ((f : Field) → In m f → Holds P f.start (bytes_of m f))
    → (c : Command) → command m ≡ read c → P c
unfolding command
command_gives P m h c e =
    let b = behind _ _ m c e in
    of_gives P b.place.start (bytes_of m b.place) (h b.place b.inside) b.type c b.says
