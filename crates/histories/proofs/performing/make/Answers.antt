-- Each way of the match is the event of the call that it makes.
use Rattle.histories.proofs.Making.{put_made, clear_made, take_made, plan_made}
use Rattle.histories.proofs.performing.make.Goals as goal

pub returns-in-Put : goal.returns-in-Put
returns-in-Put g c =
    put_made _ _ _ _ _ _ _ _ _ c.in-Put.is c.deref.ensures.value c.put_bytes.ensures.fit c.put_bytes.ensures.done

pub returns-in-Clear : goal.returns-in-Clear
returns-in-Clear g c = clear_made _ _ _ _ _ _ _ _ c.in-Clear.is c.clear.ensures.done

pub returns-in-Take : goal.returns-in-Take
returns-in-Take g c = take_made _ _ _ _ _ _ _ c.in-Take.is c.take.ensures

pub returns-in-Plan : goal.returns-in-Plan
returns-in-Plan g c = plan_made _ _ _ _ _ _ _ _ _ c.in-Plan.is c.deref-in-Plan.ensures.value c.plan.ensures.done
