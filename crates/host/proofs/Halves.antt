-- The two macros of the C header give back what the cutter answered, and no refusal is taken for a datagram. Assumes nothing.
use Rattle.wire.proofs.Basics.{◌≡◌, refl, ℕ, ◌≤◌, ◌<◌, ◌^◌, List, ◌||◌, length, ltb, leb, arith}
use Rattle.wire.proofs.Choices.{pick_all}
use Rattle.datagram.specs.Limits.{max_payload, max_fragments}
use Rattle.names.specs.Name.{good_name_lem}
use Rattle.cutter.specs.Limits.{least_size, most_size}
use Rattle.cutter.specs.Cut.{count_of, length_of, Answer, gives, refused, plan_of, cut_answer}
use Rattle.cutter.proofs.Sizes.{Done, made, made-short}
use Rattle.host.specs.Code.{code_of, CutTold, cut_count, cut_length}

-- ---- every refusal has one of the paper's numbers

abbrev Small : Answer → Type 0
Small (gives n l) = Unit {0}
Small (refused n) = n ≤ 13

plan-small : (c p m index room : ℕ) → Small (plan_of c p m index room)
unfolding plan_of
plan-small c p m index room =
    pick_all Small (ltb max_payload p) (λ _. omega arith) λ _.
    pick_all Small (ltb max_fragments (count_of c p m)) (λ _. omega arith) λ _.
    pick_all Small (leb (count_of c p m) index) (λ _. omega arith) λ _.
    pick_all Small (ltb room (length_of c p m index)) (λ _. omega arith) (λ _. tt)

answer-small : (name payload : List ℕ) (m index room : ℕ) → Small (cut_answer name payload m index room)
unfolding cut_answer
answer-small name payload m index room =
    pick_all Small (ltb m least_size || ltb most_size m) (λ _. omega arith) λ _.
    pick_all Small (good_name_lem name) (λ _. plan-small (length name) (length payload) m index room) (λ _. omega arith)

-- ---- what is told of each answer

-- a datagram: the macros give back the count and the length, and the number is at least 2^32
pub record Halved (n l x : ℕ) : Type 0 where
  pub count : cut_count x ≡ n
  pub len : cut_length x ≡ l
  pub above : 2 ^ 32 ≤ x

abbrev pub ToldAs : Answer → ℕ → Type 0
ToldAs (gives n l) x = Halved n l x
ToldAs (refused n) x = (x ≡ n) × (x < 2 ^ 32)

module _ (name payload : List ℕ) (q m index : ℕ) (out : List ℕ) (x : ℕ) (out' : List ℕ) where
  pub cut-halves : CutTold name payload q m index out x out' → ToldAs (cut_answer name payload m index (length out)) x
  cut-halves k = go (cut_answer name payload m index (length out)) refl (answer-small name payload m index (length out)) k.gave
    where
      go : (a : Answer) → cut_answer name payload m index (length out) ≡ a → Small a → x ≡ code_of a → ToldAs a x
      go (refused n) e s g = (g, omega arith)
      go (gives n l) e s g =
          let d : Done name payload m index (length out) n l = made name payload m index (length out) n l e in
          let few : n ≤ max_fragments = d.plan.few in
          let some' : 0 < n = omega (arith, d.plan.asked) in
          let short : l ≤ most_size = made-short name payload m index (length out) n l d in
          record { count = omega arith; len = omega arith; above = omega arith }
