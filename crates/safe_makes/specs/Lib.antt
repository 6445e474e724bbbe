-- What the planning of a safe make asks and answers, and where its entry goes.
pub mod SafePlanned
