-- What survives the small moves survives them together.
use Rattle.vp_model.specs.Types.{Input}
use Rattle.vp_model.specs.Catalogue.{Catalogue}
use Rattle.vp_model.specs.Site.{SiteState, Stepped}
use Rattle.vp_laws.proofs.Moves.Table.{Table}

pub both : (catalogue : Catalogue) (x : SiteState) (given : Input) (P Q : Stepped → Type 0) → Table catalogue x given P → Table catalogue x given Q → Table catalogue x given (λ o. P o × Q o)
both catalogue x given P Q p q = record {
  sends_back = λ from m t. (p.sends_back from m t, q.sends_back from m t);
  asks_again = λ o ms all h. (p.asks_again o ms all h.0, q.asks_again o ms all h.1);
  drop_view = λ l e z h. (p.drop_view l e z h.0, q.drop_view l e z h.1);
  start_inviting = λ o s l h. (p.start_inviting o s l h.0, q.start_inviting o s l h.1);
  accept = λ from id o c e l h. (p.accept from id o c e l h.0, q.accept from id o c e l h.1);
  accepted = λ from id c. (p.accepted from id c, q.accepted from id c);
  seen = λ from id promise c. (p.seen from id promise c, q.seen from id promise c);
  hold = λ from id members c e. (p.hold from id members c e, q.hold from id members c e);
  heard = λ from view c e. (p.heard from view c e, q.heard from view c e);
  fix = λ view c e. (p.fix view c e, q.fix view c e);
  without_wait = λ id c i w. (p.without_wait id c i w, q.without_wait id c i w);
  probe = λ view c e. (p.probe view c e, q.probe view c e);
  answers_inviting = λ port c s h. (p.answers_inviting port c s h.0, q.answers_inviting port c s h.1);
  start_refresh = λ view rec o j k h. (p.start_refresh view rec o j k h.0, q.start_refresh view rec o j k h.1);
  end_refresh = λ rec r own o e a d v h. (p.end_refresh rec r own o e a d v h.0, q.end_refresh rec r own o e a d v h.1);
  keep_answer = λ from view rec stored r c e f g. (p.keep_answer from view rec stored r c e f g, q.keep_answer from view rec stored r c e f g);
  grant_read = λ from txn view number rec stored c e n v f u. (p.grant_read from txn view number rec stored c e n v f u, q.grant_read from txn view number rec stored c e n v f u);
  grant_write = λ from txn view number rec stored c e n v f u. (p.grant_write from txn view number rec stored c e n v f u, q.grant_write from txn view number rec stored c e n v f u);
  vote_reading = λ from txn view number reads writes part c e n d f v a w. (p.vote_reading from txn view number reads writes part c e n d f v a w, q.vote_reading from txn view number reads writes part c e n d f v a w);
  vote_writing = λ from txn view number reads writes part c e n d f v a w. (p.vote_writing from txn view number reads writes part c e n d f v a w, q.vote_writing from txn view number reads writes part c e n d f v a w);
  end_here = λ from txn commit c. (p.end_here from txn commit c, q.end_here from txn commit c);
  coordinator = record {
    begin = λ port view e g u. (p.coordinator.begin port view e g u, q.coordinator.begin port view e g u);
    answers = λ words port why y. (p.coordinator.answers words port why y, q.coordinator.answers words port why y);
    take_lock = λ t rec exclusive stored h i a v c. (p.coordinator.take_lock t rec exclusive stored h i a v c, q.coordinator.take_lock t rec exclusive stored h i a v c);
    complete = λ t a deed l h g y e k. (p.coordinator.complete t a deed l h g y e k.0, q.coordinator.complete t a deed l h g y e k.1);
    read_at = λ t a rec s h n r u w c o y. (p.coordinator.read_at t a rec s h n r u w c o y, q.coordinator.read_at t a rec s h n r u w c o y);
    write_at = λ t a rec deed l h n w u e o d y v k. (p.coordinator.write_at t a rec deed l h n w u e o d y v k.0, q.coordinator.write_at t a rec deed l h n w u e o d y v k.1);
    prepare_parts = λ t a h i g e. (p.coordinator.prepare_parts t a h i g e, q.coordinator.prepare_parts t a h i g e);
    still_waits = λ t a from h e m f c. (p.coordinator.still_waits t a from h e m f c, q.coordinator.still_waits t a from h e m f c);
    decide = λ t n d. (p.coordinator.decide t n d, q.coordinator.decide t n d);
    close = λ t why l n a z y k. (p.coordinator.close t why l n a z y k.0, q.coordinator.close t why l n a z y k.1);
    mark_calls = λ l c z k. (p.coordinator.mark_calls l c z k.0, q.coordinator.mark_calls l c z k.1);
    acknowledge = λ from txn c w. (p.coordinator.acknowledge from txn c w, q.coordinator.acknowledge from txn c w);
  };
  resend_one = λ d o c h k. (p.resend_one d o c h k.0, q.resend_one d o c h k.1);
}
