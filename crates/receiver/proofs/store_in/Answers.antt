-- `receiver::store_in` meets its contract. Assumes nothing.
use Rattle.wire.proofs.Basics.{◌∙◌, sym, ap, subst}
use Rattle.receiver.specs.declared.Plan.{Plan}
use Rattle.receiver.specs.Inside.{Storable, store_after, ledger_after}
use Rattle.receiver.proofs.store_in.Goals as goal

pub put_fragment-requires : goal.put_fragment-requires
put_fragment-requires c =
    let args = c.args in
    subst (λ (p : Plan). Storable args.room args.d.now p) c.in-Hold.is c.requires

pub returns-in-Hold : goal.returns-in-Hold
returns-in-Hold c =
    let args = c.args in
    let e = sym c.in-Hold.is in
    (c.put_fragment.ensures.0 ∙ ap (store_after args.room args.d.now args.store.now) e, c.put_fragment.ensures.1 ∙ ap (ledger_after args.d.now args.ledger.now) e)
