-- What the walk found, as the packet says it. Assumes nothing.
use Rattle.wire.proofs.Basics.{◌∙◌, sym, ◌≡◌, ap, refl, ℕ, List, some, none, Option, length, arith}
use Rattle.std.proofs.Common.{Ok, Err, Some, None}
use Rattle.std.specs.Prelude as std
use Rattle.std.specs.Option.{ok_or}
use Rattle.refusals.specs.declared.Refusal.{Refusal}
use Rattle.refusals.specs.declared.Refusal.TheVariants.{NoSuchMessage}
use Rattle.refusals.specs.Numbers.{number_of}
use Rattle.moss.specs.Limits.{head_length}
use Rattle.moss.specs.Packet.{Given, gives, refuses, Packet, session_place, sequence_in, kind_in, held}
use Rattle.moss.specs.Message.{place_in}
use Rattle.moss.specs.Answers.{Header, header_of, headers_of, locates}
use Rattle.moss.specs.InsideWalk.{start, past_all, pointed, walked, Looked, looked}
use Rattle.moss.specs.declared.Place.{Place}
use Rattle.moss.specs.declared.Trail.{Trail}
use Rattle.moss.proofs.Faults.{broken-is}
use Rattle.moss.proofs.Trails.{all-count, walk-points}

pub look-broken : (n : ℕ) (b : List ℕ) (o : Option (List (List ℕ))) (r : Refusal) → walked start n head_length o ≡ Err r → refuses (number_of r) ≡ looked n (held b o)
look-broken n b o r e =
    let p = broken-is start n head_length o r e in
    ap (λ (x : Refusal). refuses (number_of x)) p.1 ∙ ap (λ (x : Option (List (List ℕ))). looked n (held b x)) (sym p.0)

pub look-filled : (n : ℕ) (b : List ℕ) (o : Option (List (List ℕ))) (t : Trail) (h : Header) → walked start n head_length o ≡ Ok t
    → h ≡ record { session = session_place; sequence = sequence_in b; kind = kind_in b; count = t.count } → gives (record { header = h; found = t.found }) ≡ looked n (held b o)
look-filled n b none t h e f = absurd (let z : ◌≡◌ {A = ℕ} 0 1 = cc in omega arith)
look-filled n b (some ms) t h e f =
    let p : past_all start n head_length ms ≡ t = cc in
    let c : t.count ≡ length ms = ap (λ (x : Trail). x.count) (sym p) ∙ all-count start n head_length ms ∙ omega arith in
    let q : h ≡ record { session = session_place; sequence = sequence_in b; kind = kind_in b; count = length ms } =
    f ∙ ap (λ (k : ℕ). record { session = session_place; sequence = sequence_in b; kind = kind_in b; count = k }) c in
    λ i. gives (record { header = q i; found = (sym p i).found })

-- the reader's answer and the place of a message, by what was looked at
pub looked-head : (n : ℕ) (g : Given Packet) (x : Looked) → gives x ≡ looked n g → gives x.header ≡ headers_of g
looked-head n (refuses number) x e = absurd (let z : ◌≡◌ {A = ℕ} 0 1 = cc in omega arith)
looked-head n (gives p) x e =
    let q : x ≡ record { header = header_of p; found = (past_all start n head_length p.messages).found } = cc in
    ap (λ (y : Looked). gives y.header) q

pub looked-refused : (n number : ℕ) (g : Given Packet) → refuses number ≡ looked n g → g ≡ refuses number
looked-refused n number (refuses k) e = cc
looked-refused n number (gives p) e = absurd (let z : ◌≡◌ {A = ℕ} 0 1 = cc in omega arith)

pub looked-place : (n : ℕ) (g : Given Packet) (x : Looked) → gives x ≡ looked n g → pointed x.found ≡ place_in g n
looked-place n (refuses number) x e = absurd (let z : ◌≡◌ {A = ℕ} 0 1 = cc in omega arith)
looked-place n (gives p) x e =
    let q : x ≡ record { header = header_of p; found = (past_all start n head_length p.messages).found } = cc in
    ap (λ (y : Looked). pointed y.found) q ∙ walk-points n head_length p.messages

-- the message that was looked out for, or 54
pub place-or-none : (found : std.Option Place) → locates (ok_or found NoSuchMessage) ≡ pointed found
place-or-none (Some place) = refl
place-or-none None = refl
