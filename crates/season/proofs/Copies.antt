-- LATE COPIES ADD NO PIT TO A SEASON: the lists of a flight that keeps a feed of messages are those of the messages, each once. Assumes nothing.
use Rattle.wire.proofs.Basics.{◌∙◌, sym, ◌≡◌, ap, subst, ℕ, List, length}
use Rattle.arrival.specs.Demand.{Scene, Feed, Supposed}
use Rattle.flight_log.specs.Editions.{limits_in_lem}
use Rattle.flight_log.specs.Entries.{Entry}
use Rattle.flight_log.specs.Listed.{entries_in}
use Rattle.sorted_set.specs.Lists.{SameMembers}
use Rattle.sorted_set.proofs.Members.{gather-same}
use Rattle.count_rules.specs.Marks.{list_in}
use Rattle.count_rules.specs.Run.{payloads, lists_read}
use Rattle.count_rules.specs.Count.{answers_to}
use Rattle.count_rules.specs.Promise.{LogOf, payloads_of, delivered_by}
use Rattle.count_rules.proofs.Delivered.{delivered_members}
use Rattle.count_rules.proofs.Lendings.{same-answers}
use Rattle.stretch.specs.Stretch.{entries_of}
use Rattle.season.specs.Season.{Flight, lists_of}

-- the flight's log keeps the feed, its limits admit the messages, and it is flown with a store and a ledger as long as the scene's: the log is of whatever length
pub flight-lists : (f : Flight) (σ : Scene) (g : Feed) → Supposed σ g → LogOf σ g f.log → length f.store ≡ length σ.store → length f.ledger ≡ length σ.ledger → SameMembers (lists_of f) (lists_read (payloads_of σ))
flight-lists f σ g s k es el =
    let ds : List Entry = k.entries in
    let e : delivered_by (limits_in_lem f.log) σ ds ≡ payloads (answers_to (limits_in_lem f.log) f.store f.ledger (entries_of (entries_in f.log))) =
    ap payloads (same-answers σ.store σ.ledger f.store f.ledger (sym es) (sym el) (limits_in_lem f.log) ds)
    ∙ (λ i. payloads (answers_to (limits_in_lem f.log) f.store f.ledger (entries_of (sym k.reads i)))) in
    gather-same list_in _ _ (subst (λ (ps : List (List ℕ)). SameMembers ps (payloads_of σ)) e (delivered_members σ g s (limits_in_lem f.log) k.admits ds k.keeps))
