use Rattle.search_pool.proofs.Known.{filled_one_way, filled_one_answer}
use Rattle.search_pool.proofs.Once.{one_way, one_answer}
use Rattle.search_pool.proofs.laws.alone_laws.Goals as goal

pub returns-clause-one_way : goal.returns-clause-one_way
returns-clause-one_way c = one_way (record { orders = c.order_laws.ensures.apart; within = c.order_laws.ensures.within; tags = c.tag_laws.ensures.apart })

pub returns-clause-one_answer : goal.returns-clause-one_answer
returns-clause-one_answer c = one_answer (record { orders = c.order_laws.ensures.apart; within = c.order_laws.ensures.within; tags = c.tag_laws.ensures.apart })

pub returns-clause-filled_one_way : goal.returns-clause-filled_one_way
returns-clause-filled_one_way c =
    filled_one_way (record { orders = c.order_laws.ensures.apart; within = c.order_laws.ensures.within; tags = c.tag_laws.ensures.apart })

pub returns-clause-filled_one_answer : goal.returns-clause-filled_one_answer
returns-clause-filled_one_answer c =
    filled_one_answer (record { orders = c.order_laws.ensures.apart; within = c.order_laws.ensures.within; tags = c.tag_laws.ensures.apart })
