-- THE PROMISE: the count of a log is that of the messages, each once. Assumes nothing.
use Rattle.wire.proofs.Basics.{◌∙◌, sym, ◌≡◌, ap, ℕ, List, length}
use Rattle.arrival.specs.Demand.{Scene, Feed, Delivery, in_order_of_completion, Supposed}
use Rattle.arrival.proofs.Demand3.{demand3}
use Rattle.flight_log.specs.declared.reader.Limits.{Limits}
use Rattle.flight_log.specs.Entries.{Entry}
use Rattle.sorted_set.specs.Lists.{total}
use Rattle.sorted_set.proofs.Members.{gather-same}
use Rattle.sorted_set.proofs.Sums.{length-total, length-gather}
use Rattle.count_rules.specs.Marks.{list_in}
use Rattle.count_rules.specs.Run.{lists_read}
use Rattle.count_rules.specs.Promise.{Keeps, Admits, payloads_of, delivered_by, Counted}
use Rattle.count_rules.proofs.ReportByLists.{same-report}
use Rattle.count_rules.proofs.Logs.{backwards, bytes_in, by-log}
use Rattle.count_rules.proofs.Delivered.{fair, whole-fair, delivered_members, delivered-total}

pub counted : (l : Limits) (σ : Scene) (f : Feed) → Supposed σ f → Admits l σ → (es : List Entry) → Keeps l σ f es → Counted l σ f es
counted l σ f s a es k =
    let ps : List (List ℕ) = delivered_by l σ es in
    let qs : List (List ℕ) = payloads_of σ in
    let sums : (w : List ℕ → ℕ) → total w ps ≡ total w qs = delivered-total σ f s l a es k in
    record {
      tile-lines = same-report (lists_read ps) (lists_read qs) (gather-same list_in ps qs (delivered_members σ f s l a es k));
      lists-read = length-gather list_in ps ∙ sums (λ p. length (list_in p)) ∙ sym (length-gather list_in qs);
      delivered = length-total ps ∙ sums (λ p. 1) ∙ sym (length-total qs);
      as-whole = λ ds j.
          by-log σ l a s.sent f (fair σ f s) es k
          ∙ ap (λ (x : List Delivery). backwards (bytes_in x)) (demand3 σ f s).same-deliveries
          ∙ sym (by-log σ l a s.sent (in_order_of_completion σ f) (whole-fair σ f s) ds j);
    }
