pub mod Arms
pub mod Numbers
pub mod PlanLines
pub mod Runs
pub mod Slashes
pub mod WordTexts
