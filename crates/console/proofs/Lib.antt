mod LatestNames
mod PutBack
