-- What is known of a subscription, and whether another one may be added.
pub mod Admission
pub mod AfterLooks
pub mod Ends
pub mod Readiness
pub mod Vacancies
