-- No second answer satisfies a contract of this crate. Assumes nothing.
use Rattle.wire.proofs.Basics.{◌∙◌, sym, ◌≡◌, ap, refl, ℕ, List, true, false, Bool}
use Rattle.std.proofs.Common.{Option, Some, None}
use Rattle.differences.proofs.Once.{answer-once}
use Rattle.gauge_watch.specs.declared.Session.{Session}
use Rattle.gauge_watch.specs.declared.Gauge as code
use Rattle.gauge_watch.specs.declared.Heard.{Heard}
use Rattle.gauge_watch.specs.Heard.{Gauge, shows, said, Hears}

same-shows : (x y : Option Session) → shows x ≡ shows y → x ≡ y
same-shows None None e = refl
same-shows None (Some s) e = let z : ◌≡◌ {A = Bool} false true = ap (λ (g : Gauge). g.started) e in cc
same-shows (Some s) None e = let z : ◌≡◌ {A = Bool} true false = ap (λ (g : Gauge). g.started) e in cc
same-shows (Some s) (Some t) e = λ i. Some (record { name = (e i).session; last = (e i).last })

-- `new`
pub gauge-once : {g : Gauge} (r s : code.Gauge) → said r ≡ g → said s ≡ g → r ≡ s
gauge-once r s p q = let e = same-shows r.session s.session (p ∙ sym q) in λ i. record { session = e i }

-- `see_packet`
pub see-once : {g : Gauge} {b : List ℕ} (r s : Heard) → Hears g b r → Hears g b s → r ≡ s
see-once r s p q =
    let a = answer-once r.answer s.answer p.answer q.answer in
    let n = gauge-once r.gauge s.gauge p.gauge q.gauge in
    λ i. record { answer = a i; gauge = n i }
