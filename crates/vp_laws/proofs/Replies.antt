-- What clients are replied in every schedule: ends that are true, and when refusals are justified. It uses all of the above.
pub mod RefusedCalls
pub mod Fair
pub mod FairStep
pub mod EndsTrue
pub mod FairAt
pub mod FairMoves
