-- INSIDE: how far a walk has come, in places: the contract of each function that walks. Definitions only; no promise of a public function rests on them.
use Rattle.std.specs.Prelude.{◌≡◌, List, [], ℕ, ◌+◌, ◌*◌, ◌≤◌, length, drop, Result, Ok, Err}
use Rattle.std.proofs.lemmas.List.Edits.{sets}
use Rattle.refusals.specs.declared.Refusal.{Refusal}
use Rattle.refusals.specs.Numbers.{number_of}
use Rattle.lmcp.specs.declared.Spot.{Spot}
use Rattle.lmcp.specs.Run.{Run, got, refused, Tag, tag, bad, prepend}

-- How a walk begins: the list that it goes through, and the output as it is then, into which it lays from place `to` on, as far as that reaches.
pub record Begun (A B : Type 0) : Type 0 where
  pub list : List A
  pub out : List B
  pub to : ℕ

abbrev pub begun : {A B : Type 0} → List A → List B → ℕ → Begun A B
begun s out to = record { list = s; out = out; to = to }

-- the answer of a walk that has come to two places, and that of a count or a type n before them
abbrev pub went : ℕ → ℕ → Result Spot Refusal
went p q = Ok (record { p = p; q = q })

abbrev pub marks : ℕ → ℕ → ℕ → Result (ℕ × Spot) Refusal
marks n p q = Ok (n, record { p = p; q = q })

module _ {A B : Type 0} where
  -- Of all that is to be had, W, the elements ys are got and laid, and `rest` is still to come, from place `at` of the list. Few relates the two places.
  pub record Sofar (Few : ℕ → ℕ → Type 0) (b : Begun A B) (W : Run A B) (rest : List A → Run A B) (at to : ℕ) (out : List B) : Type 0 where
    pub ys : List B
    pub whole : W ≡ prepend ys (rest (drop at b.list))
    pub laid : out ≡ sets b.out b.to ys
    pub place : to ≡ b.to + length ys
    pub fewer : Few to at
    pub within : at ≤ length b.list

  -- the answer of a walk: all of W is got, or W is refused
  abbrev pub EndsBy : (ℕ → ℕ → Type 0) → Begun A B → Run A B → Result Spot Refusal → List B → Type 0
  EndsBy Few b W (Ok s) out = Sofar Few b W (got []) s.p s.q out
  EndsBy Few b W (Err r) out = W ≡ refused (number_of r)

  -- the same of a count or a type
  pub record Marked (Few : ℕ → ℕ → Type 0) (b : Begun A B) (W : Tag A B) (n at to : ℕ) (out : List B) : Type 0 where
    pub ys : List B
    pub whole : W ≡ tag n ys (drop at b.list)
    pub laid : out ≡ sets b.out b.to ys
    pub place : to ≡ b.to + length ys
    pub fewer : Few to at
    pub within : at ≤ length b.list

  abbrev pub MarksBy : (ℕ → ℕ → Type 0) → Begun A B → Tag A B → Result (ℕ × Spot) Refusal → List B → Type 0
  MarksBy Few b W (Ok (n, s)) out = Marked Few b W n s.p s.q out
  MarksBy Few b W (Err r) out = W ≡ bad (number_of r)

-- the writer makes at most 15 bytes of a number, after the 8 before the root
abbrev pub Few15 : ℕ → ℕ → Type 0
Few15 to at = to ≤ 15 * at + 8
