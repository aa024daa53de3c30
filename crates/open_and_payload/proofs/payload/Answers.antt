-- `open_and_payload::payload` meets its contract. Assumes nothing.
use Rattle.wire.proofs.Basics.{◌∙◌, sym, ◌≡◌, ap, ℕ, List, take}
use Rattle.steps.specs.declared.Answer.{Answer}
use Rattle.steps.specs.declared.Answer.TheVariants.{Delivered}
use Rattle.steps.specs.declared.PayloadAt.{PayloadAt}
use Rattle.steps.specs.Answers.{answer_told, payload_at, reply}
use Rattle.open_and_payload.specs.Ends.{payload_of}
use Rattle.open_and_payload.proofs.payload.Goals as goal

payload-is : (d store : List ℕ) (a : Answer) (p q : PayloadAt) (n : ℕ) → a ≡ Delivered p n → p ≡ q → payload_of (reply d store (answer_told a)) ≡ take n (payload_at d store q)
payload-is d store a p q n e f = ap (λ (x : Answer). payload_of (reply d store (answer_told x))) e ∙ ap (λ (x : PayloadAt). take n (payload_at d store x)) f

pub returns-in-InDatagram : goal.returns-in-InDatagram
returns-in-InDatagram c =
    let part4 = c.part-in-InDatagram in
    let args = c.args in
    part4.ensures ∙ sym (payload-is args.d.now args.store.now _ _ _ _ c.in-Delivered.is c.in-InDatagram.is)

pub returns-in-InStore : goal.returns-in-InStore
returns-in-InStore c =
    let part5 = c.part-in-InStore in
    let args = c.args in
    part5.ensures ∙ sym (payload-is args.d.now args.store.now _ _ _ _ c.in-Delivered.is c.in-InStore.is)
