-- NO SECOND ANSWER satisfies the contract of `count_on`, for the machine shown. Assumes nothing.
use Rattle.wire.proofs.Basics.{◌∙◌, sym, ◌≡◌, ap, ℕ, List}
use Rattle.refusals.specs.Numbers.{number_of}
use Rattle.refusals.proofs.Names.{same_number}
use Rattle.pit_marks.specs.declared.Sizes.{Sizes}
use Rattle.stretch.specs.declared.Stop.{Stop as Why}
use Rattle.stretch.specs.declared.Stop.TheVariants as why
use Rattle.stretch.specs.declared.Stretch.{Stretch as Answer}
use Rattle.stretch.specs.Stop.{Stretch}
use Rattle.stretch.specs.Told.{stop_told, stretch_told}
use Rattle.stretch.specs.Stretch.{Desk, kit_of, CountsOn}

stop-once : (a b : Why) → stop_told a ≡ stop_told b → a ≡ b
stop-once why.Taken why.Taken e = λ i. why.Taken
stop-once why.Taken why.End e = cc
stop-once why.Taken (why.Broken s) e = cc
stop-once why.Taken (why.Refused s) e = cc
stop-once why.End why.Taken e = cc
stop-once why.End why.End e = λ i. why.End
stop-once why.End (why.Broken s) e = cc
stop-once why.End (why.Refused s) e = cc
stop-once (why.Broken r) why.Taken e = cc
stop-once (why.Broken r) why.End e = cc
stop-once (why.Broken r) (why.Broken s) e = let f : number_of r ≡ number_of s = cc in ap why.Broken (same_number r s f)
stop-once (why.Broken r) (why.Refused s) e = cc
stop-once (why.Refused r) why.Taken e = cc
stop-once (why.Refused r) why.End e = cc
stop-once (why.Refused r) (why.Broken s) e = cc
stop-once (why.Refused r) (why.Refused s) e = let f : number_of r ≡ number_of s = cc in ap why.Refused (same_number r s f)

pub told-once : (a b : Answer) → stretch_told a ≡ stretch_told b → a ≡ b
told-once a b e = λ i. record {
  stop = stop-once a.stop b.stop (ap (λ (x : Stretch). x.stop) e) i;
  place = ap (λ (x : Stretch). x.place) e i;
  entries = ap (λ (x : Stretch). x.entries) e i;
  totals = ap (λ (x : Stretch). x.totals) e i;
  sizes = ap (λ (x : Stretch). x.sizes) e i;
}

-- the answers are the same, and what is lent afterwards shows the same
pub count-on-once : {log : List ℕ} {place most : ℕ} {k : Desk} {had : Sizes} {a b : Stretch} {m n : Desk} → CountsOn log place most k had a m → CountsOn log place most k had b n
    → (a ≡ b) × (kit_of m a.sizes ≡ kit_of n b.sizes)
count-on-once c d = (c.gave ∙ sym d.gave, c.shows ∙ sym d.shows)
