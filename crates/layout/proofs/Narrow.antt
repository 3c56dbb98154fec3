-- Every word of a valid state's spelling is below 2 ^ 64, so it fits a store of 64-bit words.
use mathlib.Core.Path.{◌≡◌}
use mathlib.Core.Bool.{true}
use mathlib.Core.List.{List}
use Prim.Native.Nat.{ℕ, ◌^◌, ◌<◌}
use lib.ListN.{drop}
use Rattle.words.specs.Codec.{All}
use Rattle.words.proofs.Each.{all_append, all_drop}
use Rattle.rules.specs.State.{State}
use Rattle.rules.specs.Valid.{valid, Valid}
use Rattle.rules.specs.Calls.{needed}
use Rattle.rules.proofs.Valid.{says_valid}
use Rattle.layout.specs.Layout.{header_codec, body_codec, header_of, body_of, encode, put}
use Rattle.layout.proofs.Fine.{Narrow}
use Rattle.layout.proofs.Header.{fine_header}
use Rattle.layout.proofs.Body.{fine_body}

-- every word of a valid state's spelling is a 64-bit number
pub encode_narrow : (s : State) → valid s ≡ true → All (λ (w : ℕ). w < 2 ^ 64) (encode s)
unfolding encode
encode_narrow s q =
    let v : Valid s = (says_valid s).gives q in
    all_append Narrow (header_codec.enc (header_of s)) ((body_codec s.entries).enc (body_of s)) (fine_header s v) (fine_body s v)

-- so a store of 64-bit words stays one
pub put_narrow : (ws : List ℕ) (s : State) → valid s ≡ true → All (λ (w : ℕ). w < 2 ^ 64) ws → All (λ (w : ℕ). w < 2 ^ 64) (put ws s)
unfolding put
put_narrow ws s q h =
    all_append Narrow (encode s) (drop (needed s.entries) ws) (encode_narrow s q) (all_drop Narrow (needed s.entries) ws h)
